-- The heads of cuts: those of one search are one, and they differ in nothing where the test finds nothing.
use Rattle.std.proofs.Common.{◌≡◌, ℕ, List, Option, Some, None, true, false, refl, ap, sym, ◌∙◌}
use Rattle.std.specs.Prelude.{Bool, if◌then◌else◌, ◌==◌}
use Rattle.std.specs.Cmp.{eq_by_cmp_equiv, nat_eq_equiv}
use Rattle.std.specs.Ordering.{is_eq}
use Rattle.std.specs.declared.cmp.Ordering.{Ordering}
use Rattle.std.specs.declared.cmp.Ordering.TheVariants.{Less, Equal, Greater}
use Rattle.std.proofs.lemmas.Option.{none-some, same_Some}
use Rattle.std.proofs.lemmas.Bool.{eqb-true}
use Rattle.eql_values.specs.Agreement.{Agrees, Tells}
use Rattle.eql_values.specs.Names.{names_eq}
use Rattle.eql_values.specs.Orders.{text_cmp, text_eq}
use Rattle.eql_values.specs.Totals.{names_eq_equiv, text_cmp_total}
use Rattle.eql_cut.specs.declared.compare.Differs.{Differs}
use Rattle.eql_cut.specs.declared.compare.Differs.TheVariants as differs
use Rattle.eql_cut.specs.declared.cut.CutHead.{CutHead}
use Rattle.eql_cut.specs.Agreeing.{difference, tie_eq}
use Rattle.eql_runs.specs.Searches.{Search}
use Rattle.eql_runs.specs.Starts.{IsHeadOf}

-- the laws on which this rests
pub record SameLaws : Type 0 where
  pub texts : Agrees text_cmp
  pub names : Tells names_eq

-- what a search says of itself is one head
pub one_head : (search : Search) (shards : ℕ) (a b : CutHead) → IsHeadOf search shards a → IsHeadOf search shards b → a ≡ b
one_head search shards a b h k =
    let q = h.query ∙ sym k.query in
    let m = h.mapping_is ∙ sym k.mapping_is in
    let t = h.tie ∙ sym k.tie in
    let s : a.slack ≡ b.slack = same_Some a.slack b.slack (sym h.slack ∙ k.slack) in
    let n = h.shards_are ∙ sym k.shards_are in
    λ i. record { query = q i; mapping = m i; tie = t i; slack = s i; shards = n i }

-- ---- the steps of the test
abbrev by_shards : CutHead → CutHead → Bool → Option Differs
by_shards a b same = if same then None else Some (differs.Shards a.shards b.shards)

abbrev by_slack : CutHead → CutHead → Bool → Option Differs
by_slack a b same = if same then by_shards a b (a.shards == b.shards) else Some (differs.Slack a.slack b.slack)

abbrev by_tie : CutHead → CutHead → Bool → Option Differs
by_tie a b same = if same then by_slack a b (a.slack == b.slack) else Some (differs.Tie a.tie b.tie)

abbrev by_names : CutHead → CutHead → Bool → Option Differs
by_names a b same = if same then by_tie a b (tie_eq a.tie b.tie) else Some (differs.Mapping a.mapping b.mapping)

abbrev by_query : CutHead → CutHead → Bool → Option Differs
by_query a b same = if same then by_names a b (names_eq a.mapping b.mapping) else Some (differs.Query a.query b.query)

-- a head differs from itself in nothing
same_tie : (tie : Option (List ℕ)) → tie_eq tie tie ≡ true
same_tie None = refl
same_tie (Some x) = (eq_by_cmp_equiv text_cmp_total).refl x

pub no_difference : (h : CutHead) → difference h h ≡ None
no_difference h =
    ap (by_query h h) ((eq_by_cmp_equiv text_cmp_total).refl h.query) ∙ ap (by_names h h) (names_eq_equiv.refl h.mapping)
    ∙ ap (by_tie h h) (same_tie h.tie) ∙ ap (by_slack h h) (nat_eq_equiv.refl h.slack) ∙ ap (by_shards h h) (nat_eq_equiv.refl h.shards)

-- heads in which the test finds no difference are one
module _ (laws : SameLaws) where
  text_told : (x y : List ℕ) → text_eq x y ≡ true → x ≡ y
  text_told x y e = laws.texts x y (is_equal (text_cmp x y) e)
    where
      is_equal : (o : Ordering) → is_eq o ≡ true → o ≡ Equal
      is_equal Equal h = refl
      is_equal Less h = cc
      is_equal Greater h = cc

  tie_told : (x y : Option (List ℕ)) → tie_eq x y ≡ true → x ≡ y
  tie_told None None e = refl
  tie_told None (Some y) e = cc
  tie_told (Some x) None e = cc
  tie_told (Some x) (Some y) e = ap Some (text_told x y e)

  nat_told : (x y : ℕ) → (x == y) ≡ true → x ≡ y
  nat_told x y e = eqb-true x y e

  record AreSame (a b : CutHead) : Type 0 where
    query : text_eq a.query b.query ≡ true
    names : names_eq a.mapping b.mapping ≡ true
    tie : tie_eq a.tie b.tie ≡ true
    slack : (a.slack == b.slack) ≡ true
    shards : (a.shards == b.shards) ≡ true

  all_same : (a b : CutHead) → difference a b ≡ None → AreSame a b
  all_same a b none = query (text_eq a.query b.query) refl none
    where
      shards : (o : Bool) → (a.shards == b.shards) ≡ o → by_shards a b o ≡ None → text_eq a.query b.query ≡ true
          → names_eq a.mapping b.mapping ≡ true → tie_eq a.tie b.tie ≡ true → (a.slack == b.slack) ≡ true → AreSame a b
      shards true e h q m t s = record { query = q; names = m; tie = t; slack = s; shards = e }
      shards false e h q m t s = absurd (none-some (differs.Shards a.shards b.shards) (sym h))

      slack : (o : Bool) → (a.slack == b.slack) ≡ o → by_slack a b o ≡ None → text_eq a.query b.query ≡ true
          → names_eq a.mapping b.mapping ≡ true → tie_eq a.tie b.tie ≡ true → AreSame a b
      slack true e h q m t = shards (a.shards == b.shards) refl h q m t e
      slack false e h q m t = absurd (none-some (differs.Slack a.slack b.slack) (sym h))

      tie : (o : Bool) → tie_eq a.tie b.tie ≡ o → by_tie a b o ≡ None → text_eq a.query b.query ≡ true
          → names_eq a.mapping b.mapping ≡ true → AreSame a b
      tie true e h q m = slack (a.slack == b.slack) refl h q m e
      tie false e h q m = absurd (none-some (differs.Tie a.tie b.tie) (sym h))

      names : (o : Bool) → names_eq a.mapping b.mapping ≡ o → by_names a b o ≡ None → text_eq a.query b.query ≡ true → AreSame a b
      names true e h q = tie (tie_eq a.tie b.tie) refl h q e
      names false e h q = absurd (none-some (differs.Mapping a.mapping b.mapping) (sym h))

      query : (o : Bool) → text_eq a.query b.query ≡ o → by_query a b o ≡ None → AreSame a b
      query true e h = names (names_eq a.mapping b.mapping) refl h e
      query false e h = absurd (none-some (differs.Query a.query b.query) (sym h))

  pub same_heads : (a b : CutHead) → difference a b ≡ None → a ≡ b
  same_heads a b none =
      let all = all_same a b none in
      let q = text_told a.query b.query all.query in
      let m = laws.names a.mapping b.mapping all.names in
      let t = tie_told a.tie b.tie all.tie in
      let s = nat_told a.slack b.slack all.slack in
      let n = nat_told a.shards b.shards all.shards in
      λ i. record { query = q i; mapping = m i; tie = t i; slack = s i; shards = n i }
