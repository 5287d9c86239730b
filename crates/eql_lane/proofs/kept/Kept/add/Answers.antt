use Rattle.std.proofs.Common.{◌≡◌, ℕ, ℤ, ◌+◌, ap, sym, ◌∙◌, subst, Option, Some, None, Bool, true, false, cond, length, ◌≤◌, ◌<◌, arith}
use Rattle.std.specs.Prelude.{IfSome}
use Rattle.std.specs.Int.Signed.{lt_z}
use Rattle.eql_values.specs.Reading.{IsTime}
use Rattle.eql_values.specs.declared.cut.Counts.{Counts}
use Rattle.eql_values.specs.declared.reader.LineGot.{LineGot}
use Rattle.eql_values.specs.declared.reader.LineGot.TheVariants as got
use Rattle.eql_laws.specs.Lateness.{larger}
use Rattle.eql_laws.specs.Counting.{greatest_lines}
use Rattle.std.specs.Prelude.{All}
use Rattle.std.proofs.Common.{List, [], ◌++◌, length-append}
use Rattle.std.proofs.lemmas.List.Elements.{All-nil, All-cons, All-append, All-weaker}
use Rattle.eql_values.specs.declared.item.Item.{Item}
use Rattle.eql_values.specs.Accepted.{placed_at, sorted_items}
use Rattle.eql_laws.proofs.BelowLemmas.{All-sorted}
use Rattle.eql_laws.proofs.CutLemmas.{sorted_fewer}
use Rattle.eql_lane.specs.Judging.{KeptView, best_got, counts_got, held_got, IsGotAt}
use Rattle.eql_lane.proofs.kept.Kept.add.Goals as goal

one_of : (b : Bool) (t u : ℤ) → IsTime t → IsTime u → IsTime (cond b u t)
one_of true t u a c = c
one_of false t u a c = a

larger_in : (t : ℤ) (best : Option ℤ) → IsTime t → IfSome best IsTime → IsTime (larger t best)
larger_in t None a b = a
larger_in t (Some u) a b = one_of (lt_z t u) t u a b

best_in : (line : ℕ) (best : Option ℤ) (g : LineGot) → IfSome best IsTime → IsGotAt line g → IfSome (best_got best g) IsTime
best_in line best got.Blank b g = b
best_in line best (got.Bad reason) b g = b
best_in line best (got.Item item) b g = larger_in item.order.ts best g.1 b

more_lines : (counts : Counts) (late : Bool) (g : LineGot) → (counts_got counts late g).lines ≡ counts.lines + 1
more_lines counts late got.Blank = λ _. counts.lines + 1
more_lines counts late (got.Bad reason) = λ _. counts.lines + 1
more_lines counts true (got.Item item) = λ _. counts.lines + 1
more_lines counts false (got.Item item) = λ _. counts.lines + 1

-- an event that is held is accepted
more_held : (counts : Counts) (late : Bool) (at : ℕ) (g : LineGot) → counts.accepted + length (held_got late at g) ≤ (counts_got counts late g).accepted
more_held counts late at got.Blank = omega arith
more_held counts late at (got.Bad reason) = omega arith
more_held counts true at (got.Item item) = omega arith
more_held counts false at (got.Item item) = omega arith

-- what is held then
held_lines : (line : ℕ) (late : Bool) (at : ℕ) (g : LineGot) → IsGotAt line g → All (λ (item : Item). item.order.line ≤ line) (held_got late at g)
held_lines line late at got.Blank is = All-nil (λ (item : Item). item.order.line ≤ line)
held_lines line late at (got.Bad reason) is = All-nil (λ (item : Item). item.order.line ≤ line)
held_lines line true at (got.Item item) is = All-nil (λ (item : Item). item.order.line ≤ line)
held_lines line false at (got.Item item) is =
    All-cons (λ (i : Item). i.order.line ≤ line) (placed_at at item) [] (let e = is.0 in omega (arith, e)) (All-nil (λ (i : Item). i.order.line ≤ line))

lines_on : (n : ℕ) (late : Bool) (at : ℕ) (g : LineGot) (items : List Item) → All (λ (item : Item). item.order.line ≤ n) items → IsGotAt (n + 1) g
    → All (λ (item : Item). item.order.line ≤ n + 1) (sorted_items (items ++ held_got late at g))
lines_on n late at g items lines is =
    All-sorted (λ (item : Item). item.order.line ≤ n + 1) (items ++ held_got late at g)
    (All-append (λ (item : Item). item.order.line ≤ n + 1) items (held_got late at g)
    (All-weaker (λ (item : Item). item.order.line ≤ n) (λ (item : Item). item.order.line ≤ n + 1) (λ item le. omega (arith, le)) items lines) (held_lines (n + 1) late at g is))

pub invariant_of-self-2 : goal.invariant_of-self-2
invariant_of-self-2 c =
    let held = c.in_ok-hold.ensures.items in
    let at : IsGotAt (c.self.inside.counts.lines + 1) c.args.got = subst (λ (k : KeptView). IsGotAt (k.counts.lines + 1) c.args.got) (sym c.self.view_is) c.requires.got in
    record {
      lines = subst (λ (n : ℕ). All (λ (item : Item). item.order.line ≤ n) c.hold.new.held)
          (sym (ap (λ (counts : Counts). counts.lines) c.counts_with-counts.ensures.counts ∙ more_lines c.self.inside.counts c.gives_late-late.result c.args.got))
          (subst (All (λ (item : Item). item.order.line ≤ c.self.inside.counts.lines + 1)) (sym held) (lines_on c.self.inside.counts.lines c.gives_late-late.result c.self.inside.offset c.args.got c.self.inside.held c.self.invariant.lines at));
      few =
          let a = ap (λ (counts : Counts). counts.accepted) c.counts_with-counts.ensures.counts in
          let b = more_held c.self.inside.counts c.gives_late-late.result c.self.inside.offset c.args.got in
          let h = ap length held in
          let s = sorted_fewer (c.self.inside.held ++ held_got c.gives_late-late.result c.self.inside.offset c.args.got) in
          let l = length-append c.self.inside.held (held_got c.gives_late-late.result c.self.inside.offset c.args.got) in
          let d = c.self.invariant.few in omega (arith, a, b, h, s, l, d);
      fewer = c.counts_with-counts.ensures.fewer;
      within = let a = ap (λ (counts : Counts). counts.lines) c.counts_with-counts.ensures.counts in let b = more_lines c.self.inside.counts c.gives_late-late.result c.args.got in
          let d : c.self.inside.counts.lines < greatest_lines = subst (λ (k : KeptView). k.counts.lines < greatest_lines) (sym c.self.view_is) c.requires.lines in omega (arith, a, b, d);
      in_range = subst (λ (o : Option ℤ). IfSome o IsTime) (sym c.best_with-best.ensures) (best_in _ c.self.inside.best c.args.got c.self.invariant.in_range c.requires.got);
      is_slack = c.self.invariant.is_slack;
    }
