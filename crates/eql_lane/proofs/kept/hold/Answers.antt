use Rattle.std.proofs.Common.{◌≡◌, ℕ, List, refl, ap, sym, ◌∙◌, ◌++◌, [], ◌∷◌, Bool, true, cond}
use Rattle.std.proofs.lemmas.List.{append-nil}
use Rattle.eql_values.specs.Accepted.{sorted_items, placed_at}
use Rattle.eql_values.specs.declared.item.Item.{Item}
use Rattle.eql_values.specs.declared.reader.LineGot.{LineGot}
use Rattle.eql_values.specs.declared.reader.LineGot.TheVariants as got
use Rattle.eql_lane.specs.Judging.{held_got}
use Rattle.eql_lane.proofs.HeldLemmas.{sorted_whole}
use Rattle.eql_lane.proofs.kept.hold.Goals as goal

none_more : (items more : List Item) → items ≡ sorted_items items → more ≡ [] → items ≡ sorted_items (items ++ more)
none_more items more sorted none = sorted ∙ ap sorted_items (sym (append-nil items) ∙ ap (λ (l : List Item). items ++ l) (sym none))

no_item : (late : Bool) (at : ℕ) (g : LineGot) → ((item : Item) → ¬ (g ≡ got.Item item)) → held_got late at g ≡ []
no_item late at got.Blank n = refl
no_item late at (got.Bad reason) n = refl
no_item late at (got.Item item) n = absurd (n item refl)

held_is : (late : Bool) (at : ℕ) (g : LineGot) (item : Item) → g ≡ got.Item item → (b : Bool) → late ≡ b → held_got late at g ≡ cond b [] (placed_at at item ∷ [])
held_is late at g item e b h = ap (held_got late at) e ∙ ap (λ (c : Bool). cond c [] (placed_at at item ∷ [])) h

pub returns-in_default : goal.returns-in_default
returns-in_default c = record {
  items = none_more c.args.held.now (held_got c.args.late c.args.at c.args.got) (sorted_whole c.args.held.now c.ordered.ensures) (no_item c.args.late c.args.at c.args.got c.in_default.not-Item);
  unchanged = tt;
}

pub returns-then-late-clause-items : goal.returns-then-late-clause-items
returns-then-late-clause-items c =
    none_more c.args.held.now (held_got c.args.late c.args.at c.args.got) (sorted_whole c.args.held.now c.ordered.ensures)
    (held_is c.args.late c.args.at c.args.got c.in-Item.item c.in-Item.is true c.if-late.true)
