-- Each step keeps the rule.
use Rattle.std.proofs.Common.{◌≡◌, ◌≢◌, ℕ, zero, suc, ◌+◌, ◌*◌, ◌%◌, ◌<◌, ◌≤◌, ◌^◌, le_refl, Bool, true, false, true≢false, List, [], ◌∷◌, ◌++◌, map, length, get_or, set, refl, sym, ap, ◌∙◌, subst, arith, eqb, append-nil, length-append, length-set}
use Rattle.std.proofs.lemmas.List.Elements.{All-nil, All-weaker}
use Rattle.std.proofs.lemmas.List.Quantifiers.{all_pairs_push}
use Rattle.std.specs.Prelude.{All, sum_by, Option, Some, None, is_some}
use mathlib.Core.Logic.{dite}
use native.Mathlib.Decide.{ℕ_discrete}
use mathlib.Core.Logic.{◌⊎◌, inl, inr, ⊎_elim}
use mathlib.Core.Option.{some, none, some-injective, some-ne-none}
use mathlib.Core.Option as maybe
use prog.Atomic.{either}
use lib.ListN.{get_elem?}
use lib.Seq.{set-get_or}
use Rattle.atomic_table.specs.Table.{State, Me, step, keeps, takes, gives, stepped, rest, opening, Allows, Splits, Joins, Seen, Final, Act, Valid, carried_after, put_back}
use Rattle.atomic_table.proofs.Lists.{set_again, at_set, set_here, set_else, at_longer, at_last, exchanged}
use Rattle.eql_turn_lock.specs.declared.history.Entry.{Entry}
use Rattle.eql_turn_lock.specs.declared.view.Ended.{Ended}
use Rattle.eql_turn_lock.specs.declared.slot.LastCall.{LastCall}
use Rattle.eql_turn_lock.specs.declared.slot.Slot.{Slot}
use Rattle.eql_turn_lock.specs.declared.view.View.{View}
use Rattle.eql_turn_lock.specs.History.{StartsWith, entry, calls_by, OthersOpen, EndsIdle, IsLegal}
use Rattle.eql_turn_lock.specs.Passes.{first_view, spent_view, is_live, HasEnded, IsEndedIn, AreDistinct, longer, split_view, new_view, ended_of, joined_view, KnowsHistory}
use Rattle.eql_turn_lock.specs.Rule.{Phase, free, taken, live_count, looked_at, in_turn, view_after, SeatFits, Stands, EndedFits, FirstFits, IsIdleFront, HasOneHistory, FindsIdle, loads, loads_idle, takes_turn, ends_turn, learns, tells_idle}
use Rattle.eql_turn_lock.specs.Calls.{Closes}
use Rattle.eql_turn_lock.proofs.Histories.{all_both, all_left, all_snoc, starts_longer, starts_in, starts_self, starts_shorter, calls_mine, calls_other, legal_snoc, legal_split}
use Rattle.eql_turn_lock.proofs.Counts.{all_counted}
use Rattle.eql_turn_lock.proofs.Views.{in_range, at_some, at_end, calls_none, calls_between, longer_is, live_set_same, live_set_less, live_snoc, live_one}

module _ {X : Type 0} where
  abbrev some_or : X → Option X → X
  some_or d (Some x) = x
  some_or d None = d

  pub inject : {x y : X} → Some x ≡ Some y → x ≡ y
  inject {x} {y} e = ap (some_or x) e

  pub no_some : {A : Type 0} {x : X} → None ≡ Some x → A
  no_some e = absurd (cc)

abbrev taken_is : Phase → ℕ
taken_is free = 0
taken_is (taken k) = suc k

taken_same : {j k : ℕ} → taken j ≡ taken k → j ≡ k
taken_same {j} {k} e = let t : suc j ≡ suc k = ap taken_is e in omega arith

not_taken : {A : Type 0} {k : ℕ} → free ≡ taken k → A
not_taken {A} {k} e = absurd (let t : 0 ≡ suc k = ap taken_is e in omega arith)

module _ {T O R : Type 0} (step_of : T → O → R → T → Type 0) (is_open : O → Bool) (is_idle : R → Bool) (first : T) where
  dead_live : {A : Type 0} (v w : View T O R) → v ≡ w → is_live v ≡ false → is_live w ≡ true → A
  dead_live v w is dead live = absurd (true≢false (sym live ∙ (ap is_live (sym is) ∙ dead)))

  front_stays : (word : ℕ) (log log' : List (Entry O R)) → StartsWith log' log → IsIdleFront is_idle word log → IsIdleFront is_idle word log'
  front_stays word log log' longer_log f = (f.0, starts_in log' log f.0 longer_log f.1, f.2, f.3)

  -- the seat id has the view w now, and the others keep theirs
  change_keeps : (s : State (Slot T O R) (View T O R)) (r : HasOneHistory step_of is_open is_idle first s) (id : ℕ) (v w : View T O R) (log' : List (Entry O R)) (value' : T) (word' : ℕ) (phase' : Phase) (homes' : List (maybe.Option (Slot T O R)))
      → get_elem? s.views id ≡ some v → is_live v ≡ true → w.opening ≡ v.opening → w.made ≡ v.made → w.ended ≡ v.ended → r.word ≤ word' → StartsWith log' r.log → ((j : ℕ) → j ≢ id → calls_by j log' ≡ calls_by j r.log)
      → All (λ (e : Entry O R). e.by < length s.views) log' → IsLegal step_of first log' value' → Stands value' log' word' homes' phase' → OthersOpen is_open log' → SeatFits first log' word' phase' id w
      → ((j : ℕ) (u : View T O R) → j ≢ id → SeatFits first r.log r.word r.phase j u → SeatFits first log' word' phase' j u)
      → ((k : ℕ) → phase' ≡ taken k → (u : View T O R) × (get_elem? (set s.views id w) k ≡ some u) × (is_live u ≡ true) × ((l : List (Entry O R)) × (u.turn ≡ Some l)))
      → (id ≡ 0 → All (IsEndedIn w.seen) w.ended)
      → HasOneHistory step_of is_open is_idle first record { words = word' ∷ r.idle ∷ []; homes = homes'; views = set s.views id w }
  change_keeps s r id v w log' value' word' phase' homes' here live_v opening_is made_is ended_is grows longer_log quiet below legal stands opened mine others takes_it seen_ok =
      let live_w : is_live w ≡ true = ap is_some opening_is ∙ live_v in
      let same_length : length (set s.views id w) ≡ length s.views = length-set s.views id w in record {
        log = log';
        value = value';
        legal = legal;
        phase = phase';
        word = word';
        idle = r.idle;
        words_are = refl;
        idle_front = λ low. front_stays r.idle r.log log' longer_log (r.idle_front low);
        stands = stands;
        others_open = opened;
        by_below = subst (λ (n : ℕ). All (λ (e : Entry O R). e.by < n) log') (sym same_length) below;
        each_seat = λ j u at live. ⊎_elim
            (λ (t : (j ≡ id) × (w ≡ u)). subst (λ (z : ℕ × View T O R). SeatFits first log' word' phase' z.0 z.1) (λ i. (sym t.0 i, t.1 i)) mine)
            (λ (t : (j ≢ id) × (get_elem? s.views j ≡ some u)). others j u t.0 (r.each_seat j u t.1 live))
            (at_set s.views id j w u at);
        taker = takes_it;
        first_seat = λ u at live. ⊎_elim
            (λ (t : (0 ≡ id) × (w ≡ u)). subst (λ (z : View T O R). FirstFits log' word' (set s.views id w) z) t.1
            (led w live_w same_length made_is ended_is (r.first_seat v (subst (λ (k : ℕ). get_elem? s.views k ≡ some v) (sym t.0) here) live_v) (seen_ok (sym t.0))))
            (λ (t : (0 ≢ id) × (get_elem? s.views 0 ≡ some u)). let l = r.first_seat u t.1 live in led u live_w same_length refl refl l l.ended_seen)
            (at_set s.views id 0 w u at);
      }
    where
      still_ended : is_live w ≡ true → (e : Ended O R) → EndedFits r.log r.word s.views e → EndedFits log' word' (set s.views id w) e
      still_ended live_w e f = let other : e.number ≢ id = λ is. dead_live spent_view v (some-injective spent_view v (sym f.is_spent ∙ (ap (get_elem? s.views) is ∙ here))) refl live_v in record {
        some_number = f.some_number;
        all_mine = quiet e.number other ∙ f.all_mine;
        below = All-weaker (λ (n : ℕ). n ≤ r.word) (λ (n : ℕ). n ≤ word') (λ n le. omega arith) e.looked f.below;
        is_spent = set_else s.views id e.number w other ∙ f.is_spent;
      }

      led : {u' : View T O R} (u : View T O R) → is_live w ≡ true → length (set s.views id w) ≡ length s.views → u.made ≡ u'.made → u.ended ≡ u'.ended → FirstFits r.log r.word s.views u'
          → All (IsEndedIn u.seen) u.ended → FirstFits log' word' (set s.views id w) u
      led {u'} u live_w same_length made_u ended_u l seen_u = record {
        made_is = same_length ∙ (l.made_is ∙ ap (λ (n : ℕ). n + 1) (sym made_u));
        ended_fit = subst (All (EndedFits log' word' (set s.views id w))) (sym ended_u) (All-weaker (EndedFits r.log r.word s.views) (EndedFits log' word' (set s.views id w)) (still_ended live_w) u'.ended l.ended_fit);
        ended_seen = seen_u;
        distinct = subst AreDistinct (sym ended_u) l.distinct;
        each_spent = λ j x at dead. ⊎_elim
            (λ (t : (j ≡ id) × (w ≡ x)). dead_live x w (sym t.1) dead live_w)
            (λ (t : (j ≢ id) × (get_elem? s.views j ≡ some x)). subst (HasEnded j) (sym ended_u) (l.each_spent j x t.1 dead))
            (at_set s.views id j w x at);
        count = (λ i. live_set_same s.views id v w here (live_w ∙ sym live_v) i + length (ended_u i)) ∙ (l.count ∙ sym same_length);
      }

  word_is : (s : State (Slot T O R) (View T O R)) (r : HasOneHistory step_of is_open is_idle first s) → get_or s.words 0 0 ≡ r.word
  word_is s r = ap (λ (ws : List ℕ). get_or ws 0 0) r.words_are

  words_set : (s : State (Slot T O R) (View T O R)) (r : HasOneHistory step_of is_open is_idle first s) (n : ℕ) → n ∷ r.idle ∷ [] ≡ set s.words 0 n
  words_set s r n = sym (ap (λ (ws : List ℕ). set ws 0 n) r.words_are)

  -- who holds the turn still does, where its view keeps it
  keeps_taker : (s : State (Slot T O R) (View T O R)) (r : HasOneHistory step_of is_open is_idle first s) (id : ℕ) (v w : View T O R) → get_elem? s.views id ≡ some v → w.opening ≡ v.opening → w.turn ≡ v.turn
      → (k : ℕ) → r.phase ≡ taken k → (u : View T O R) × (get_elem? (set s.views id w) k ≡ some u) × (is_live u ≡ true) × ((l : List (Entry O R)) × (u.turn ≡ Some l))
  keeps_taker s r id v w here opening_is turn_is k is = let t = r.taker k is in dite (ℕ_discrete k id)
      (λ (e : k ≡ id). let same : t.0 ≡ v = some-injective t.0 v (sym t.1 ∙ (ap (get_elem? s.views) e ∙ here)) in
      (w, ap (get_elem? (set s.views id w)) e ∙ set_here s.views id w (in_range s.views id v here), ap is_some opening_is ∙ (ap is_live (sym same) ∙ t.2), (t.3.0, turn_is ∙ (ap (λ (z : View T O R). z.turn) (sym same) ∙ t.3.1))))
      (λ (ne : k ≢ id). (t.0, set_else s.views id k w ne ∙ t.1, t.2, t.3))

  made_below : (log : List (Entry O R)) (views : List (View T O R)) (made : ℕ) → length views ≡ made + 1 → All (λ (e : Entry O R). e.by < length views) log → All (λ (e : Entry O R). e.by ≤ made) log
  made_below log views made is below = All-weaker (λ (e : Entry O R). e.by < length views) (λ (e : Entry O R). e.by ≤ made) (λ e lt. omega arith) log below

  -- what the rule says of any seat is what a pass knows
  knows_now : (s : State (Slot T O R) (View T O R)) (r : HasOneHistory step_of is_open is_idle first s) (id : ℕ) (v : View T O R) → get_elem? s.views id ≡ some v → is_live v ≡ true → KnowsHistory step_of is_open v
  knows_now s r id v at live = let f = r.each_seat id v at live in let rest = f.begins.0 in let is = f.begins.1 in
      let cut = legal_split step_of v.seen rest first r.value (subst (λ (l : List (Entry O R)). IsLegal step_of first l r.value) is r.legal) in
      let first_fits = λ (zero_is : v.number ≡ 0). r.first_seat v (subst (λ (k : ℕ). get_elem? s.views k ≡ some v) (sym f.number ∙ zero_is) at) live in record {
        opening = first;
        opened = f.opened;
        value = cut.0;
        legal = cut.1;
        own = ap (λ (n : ℕ). calls_by n v.seen) f.number ∙ f.seen_mine;
        others_open = all_left (λ (e : Entry O R). e.by ≢ 0 → is_open e.op ≡ true) v.seen rest (subst (OthersOpen is_open) is r.others_open);
        by_made = λ zero_is. all_left (λ (e : Entry O R). e.by ≤ v.made) v.seen rest (subst (All (λ (e : Entry O R). e.by ≤ v.made)) is (made_below r.log s.views v.made (first_fits zero_is).made_is r.by_below));
        ended_in = λ zero_is. (first_fits zero_is).ended_seen;
        distinct = λ zero_is. (first_fits zero_is).distinct;
      }

  looked_fits : (log : List (Entry O R)) (word : ℕ) (phase : Phase) (id : ℕ) (v : View T O R) → SeatFits first log word phase id v → SeatFits first log word phase id (looked_at word v)
  looked_fits log word phase id v f = record {
    number = f.number;
    opened = f.opened;
    begins = f.begins;
    all_mine = f.all_mine;
    seen_mine = f.seen_mine;
    below = all_snoc (λ (n : ℕ). n ≤ word) v.looked word f.below (omega arith);
    holds = f.holds;
  }

  word_counts : (value : T) (log : List (Entry O R)) (word : ℕ) (homes : List (maybe.Option (Slot T O R))) (phase : Phase) → Stands value log word homes phase → 2 * length log ≤ word
  word_counts value log word homes free st = let is = st.0 in omega arith
  word_counts value log word homes (taken k) st = let is = st.0 in omega arith

  -- a step that reads the word, and leaves it
  reads : (s : State (Slot T O R) (View T O R)) (r : HasOneHistory step_of is_open is_idle first s) (id : ℕ) (me : Me (Slot T O R) (View T O R)) → get_elem? s.views id ≡ some me.0 → is_live me.0 ≡ true
      → HasOneHistory step_of is_open is_idle first (stepped s 0 (get_or s.words 0 0) id me.1 (looked_at (get_or s.words 0 0) me.0) keeps)
  reads s r id me at live = subst (λ (z : ℕ). HasOneHistory step_of is_open is_idle first (stepped s 0 z id me.1 (looked_at z me.0) keeps)) (sym (word_is s r))
      (subst (λ (ws : List ℕ). HasOneHistory step_of is_open is_idle first record { words = ws; homes = s.homes; views = set s.views id (looked_at r.word me.0) }) (words_set s r r.word)
      (change_keeps s r id me.0 (looked_at r.word me.0) r.log r.value r.word r.phase s.homes at live refl refl refl (le_refl r.word) (starts_self r.log) (λ j _. refl) r.by_below r.legal r.stands r.others_open
      (looked_fits r.log r.word r.phase id me.0 (r.each_seat id me.0 at live)) (λ j v _ f. f) (keeps_taker s r id me.0 (looked_at r.word me.0) at refl refl)
      (λ zero_is. (r.first_seat me.0 (subst (λ (k : ℕ). get_elem? s.views k ≡ some me.0) zero_is at) live).ended_seen)))

  -- the word counts no less than a pass has seen
  seen_counted : (s : State (Slot T O R) (View T O R)) (r : HasOneHistory step_of is_open is_idle first s) (id : ℕ) (v : View T O R) → SeatFits first r.log r.word r.phase id v → 2 * length v.seen ≤ get_or s.words 0 0
  seen_counted s r id v f = let same = word_is s r in let shorter = starts_shorter r.log v.seen f.begins in let counted = word_counts r.value r.log r.word s.homes r.phase r.stands in omega arith

  pub loads_now : (slots id : ℕ) (me : Me (Slot T O R) (View T O R)) → is_live me.0 ≡ true → Allows (HasOneHistory step_of is_open is_idle first) slots id me 0 (λ n. n) (loads step_of is_open (step slots 0 0 0 none) me)
  loads_now slots id me live s r wide at small = let same = word_is s r in let f = r.each_seat id me.0 at live in
      (looked_at (get_or s.words 0 0) me.0, keeps, tt, reads s r id me at live, (refl, subst (λ (x : ℕ). All (λ (k : ℕ). k ≤ x) me.0.looked) (sym same) f.below, knows_now s r id me.0 at live, seen_counted s r id me.0 f))

  module _ (value : T) (log : List (Entry O R)) (word : ℕ) (homes : List (maybe.Option (Slot T O R))) where
    at_rest : (phase : Phase) → Stands value log word homes phase → word % 2 ≡ 0 → (phase ≡ free) × Stands value log word homes free
    at_rest free st even = (refl, st)
    at_rest (taken k) st even = absurd (let odd = st.0 in omega arith)

  abbrev Goes : ℕ → ℕ → (ℕ → Me (Slot T O R) (View T O R) → Type 0) → State (Slot T O R) (View T O R) → ℕ → Me (Slot T O R) (View T O R) → Type 0
  Goes id x told s n me = (w : View T O R) × (a : Act (Slot T O R)) × Valid s.homes me.1 a × HasOneHistory step_of is_open is_idle first (stepped s 0 n id me.1 w a) × told x (w, carried_after me.1 a)

  ended_in_log : (log : List (Entry O R)) (word : ℕ) (views : List (View T O R)) (seen : List (Entry O R)) (ended : List (Ended O R)) → StartsWith log seen → All (EndedFits log word views) ended → All (IsEndedIn seen) ended
      → All (λ (e : Ended O R). (0 < e.number) × IsEndedIn log e) ended
  ended_in_log log word views seen ended begins fit in_seen = All-weaker (λ (e : Ended O R). EndedFits log word views e × IsEndedIn seen e) (λ (e : Ended O R). (0 < e.number) × IsEndedIn log e)
      (λ e p. (p.0.some_number, (p.0.all_mine, starts_in log seen e.seen begins p.1.1, starts_in log seen e.before begins p.1.2))) ended (all_both (EndedFits log word views) (IsEndedIn seen) ended fit in_seen)

  -- the word is even: the seat takes the value
  takes_turn_at : (s : State (Slot T O R) (View T O R)) (r : HasOneHistory step_of is_open is_idle first s) (slots id : ℕ) (me : Me (Slot T O R) (View T O R)) (old new : ℕ) → is_live me.0 ≡ true → old % 2 ≡ 0 → new ≡ old + 1
      → get_elem? s.views id ≡ some me.0 → get_or s.words 0 0 ≡ old → Goes id (get_or s.words 0 0) (takes_turn step_of is_open (step slots 0 old new none) me) s new me
  takes_turn_at s r slots id me old new live even up at hit = let x : ℕ = get_or s.words 0 0 in let f = r.each_seat id me.0 at live in let same : x ≡ r.word = word_is s r in let now : r.word ≡ old = sym same ∙ hit in
      let rest = at_rest r.value r.log r.word s.homes r.phase r.stands (ap (λ (n : ℕ). n % 2) now ∙ even) in let st = rest.1 in let long : r.word ≡ 2 * length r.log = st.0 in let h = st.1.0 in let w : View T O R = in_turn r.log me.0 in
      let first_at = λ (zero_is : id ≡ 0). r.first_seat me.0 (subst (λ (k : ℕ). get_elem? s.views k ≡ some me.0) zero_is at) live in (
        w,
        takes 0 h,
        ap (λ (hs : List (maybe.Option (Slot T O R))). get_elem? hs 0) st.1.1,
        subst (λ (ws : List ℕ). HasOneHistory step_of is_open is_idle first record { words = ws; homes = set s.homes 0 none; views = set s.views id w }) (words_set s r new)
            (change_keeps s r id me.0 w r.log r.value new (taken id) (set s.homes 0 none) at live refl refl refl (omega arith) (starts_self r.log) (λ j _. refl) r.by_below r.legal
            (omega arith, ap (λ (hs : List (maybe.Option (Slot T O R))). set hs 0 none) st.1.1) r.others_open
            record {
              number = f.number;
              opened = f.opened;
              begins = f.begins;
              all_mine = f.all_mine;
              seen_mine = f.seen_mine;
              below = All-weaker (λ (n : ℕ). n ≤ r.word) (λ (n : ℕ). n ≤ new) (λ n le. omega arith) me.0.looked f.below;
              holds = λ l e. (sym (inject e), refl);
            }
            (λ j v other g. record {
              number = g.number;
              opened = g.opened;
              begins = g.begins;
              all_mine = g.all_mine;
              seen_mine = g.seen_mine;
              below = All-weaker (λ (n : ℕ). n ≤ r.word) (λ (n : ℕ). n ≤ new) (λ n le. omega arith) v.looked g.below;
              holds = λ l e. not_taken (sym rest.0 ∙ (g.holds l e).1);
            })
            (λ k is. let there : k ≡ id = sym (taken_same is) in (w, ap (get_elem? (set s.views id w)) there ∙ set_here s.views id w (in_range s.views id me.0 at), live, (r.log, refl)))
            (λ zero_is. (first_at zero_is).ended_seen)),
        (
          (λ _ none_held. (
            record {
              log = r.log;
              slot = h;
              opening = first;
              value = r.value;
              turn = refl;
              carries = ap (λ (c : List (ℕ × Slot T O R)). (0, h) ∷ c) none_held;
              long = same ∙ long;
              opened = f.opened;
              valued = st.1.2;
              legal = r.legal;
              begins = f.begins;
              all_mine = subst (λ (n : ℕ). calls_by n r.log ≡ me.0.mine) (sym f.number) f.all_mine;
              seen_mine = subst (λ (n : ℕ). calls_by n me.0.seen ≡ me.0.mine) (sym f.number) f.seen_mine;
              others_open = r.others_open;
              by_made = λ zero_is. let l = first_at (sym f.number ∙ zero_is) in made_below r.log s.views me.0.made l.made_is r.by_below;
              ended_all = λ zero_is. let l = first_at (sym f.number ∙ zero_is) in ended_in_log r.log r.word s.views me.0.seen me.0.ended f.begins l.ended_fit l.ended_seen;
              distinct = λ zero_is. (first_at (sym f.number ∙ zero_is)).distinct;
            },
            (refl, refl, refl, refl, refl, refl, refl),
          )),
          (λ not. absurd (not hit)),
        ),
      )

  pub takes_turn_now : (slots id : ℕ) (me : Me (Slot T O R) (View T O R)) (old new : ℕ) → is_live me.0 ≡ true → old % 2 ≡ 0 → new ≡ old + 1
      → Allows (HasOneHistory step_of is_open is_idle first) slots id me 0 (λ n. either (eqb n old) new n) (takes_turn step_of is_open (step slots 0 old new none) me)
  takes_turn_now slots id me old new live even up s r wide at small = let x : ℕ = get_or s.words 0 0 in
      exchanged x old new (λ n. Goes id x (takes_turn step_of is_open (step slots 0 old new none) me) s n me)
      (λ hit. takes_turn_at s r slots id me old new live even up at hit)
      (λ miss. (looked_at x me.0, keeps, tt, reads s r id me at live, ((λ hit. absurd (miss hit)), λ _. (refl, knows_now s r id me.0 at live))))

  abbrev first_slot : Slot T O R → List (ℕ × Slot T O R) → Slot T O R
  first_slot d [] = d
  first_slot d (x ∷ xs) = x.1

  pub ends_turn_now : (slots id : ℕ) (me : Me (Slot T O R) (View T O R)) (log : List (Entry O R)) (slot : Slot T O R) (last : LastCall O R) (start x y : T) (new : ℕ) → is_live me.0 ≡ true
      → me.0.turn ≡ Some log → me.1 ≡ (0, slot) ∷ [] → slot.last ≡ Some last → slot.value ≡ Some y → me.0.opening ≡ Some start → IsLegal step_of start log x → step_of x last.op.value last.reply.value y
      → (me.0.number ≢ 0 → is_open last.op.value ≡ true) → new ≡ 2 * length log + 2 → Allows (HasOneHistory step_of is_open is_idle first) slots id me 0 (λ _. new) (λ _. ends_turn (step slots 0 new 0 none) me new)
  ends_turn_now slots id me log slot last start x y new live turn carries tells valued starts legal steps opened long s r wide at small =
      let f = r.each_seat id me.0 at live in let mine = f.holds log turn in let e : Entry O R = entry me.0.number last.op.value last.reply.value in let w : View T O R = view_after log e me.0 in let is = mine.0 in
      let st : Stands r.value r.log r.word s.homes (taken id) = subst (Stands r.value r.log r.word s.homes) mine.1 r.stands in let word : r.word ≡ 2 * length r.log + 1 = st.0 in let same : length log ≡ length r.log = ap (λ (l : List (Entry O R)). length l) is in
      let start_is : start ≡ first = inject (sym starts ∙ f.opened) in
      let legal' : IsLegal step_of first r.log x = subst (λ (z : T × List (Entry O R)). IsLegal step_of z.0 z.1 x) (λ i. (start_is i, is i)) legal in
      let longer_by = length-append r.log (e ∷ []) in let homes' = put_back s.homes me.1 in
      let inside : me.0.number < length s.views = subst (λ (n : ℕ). n < length s.views) (sym f.number) (in_range s.views id me.0 at) in
      let back : homes' ≡ some slot ∷ [] = λ i. put_back (st.1 i) (carries i) in (
        w,
        gives,
        tt,
        subst (λ (ws : List ℕ). HasOneHistory step_of is_open is_idle first record { words = ws; homes = homes'; views = set s.views id w }) (words_set s r new)
            (change_keeps s r id me.0 w (r.log ++ e ∷ []) y new free homes' at live refl refl refl (omega arith) (e ∷ [], refl) (λ j other. calls_other j r.log e (λ by. other (sym by ∙ f.number)))
            (all_snoc (λ (z : Entry O R). z.by < length s.views) r.log e r.by_below inside)
            (legal_snoc step_of r.log e first x y legal' steps)
            (omega arith, (slot, back, valued))
            (all_snoc (λ (z : Entry O R). z.by ≢ 0 → is_open z.op ≡ true) r.log e r.others_open opened)
            record {
              number = f.number;
              opened = f.opened;
              begins = ([], ap (λ (l : List (Entry O R)). l ++ e ∷ []) (sym is) ∙ sym (append-nil (log ++ e ∷ [])));
              all_mine = calls_mine id r.log e f.number ∙ ap (λ (l : List (Entry O R)). l ++ e ∷ []) f.all_mine;
              seen_mine = ap (λ (l : List (Entry O R)). calls_by id (l ++ e ∷ [])) is ∙ (calls_mine id r.log e f.number ∙ ap (λ (l : List (Entry O R)). l ++ e ∷ []) f.all_mine);
              below = All-weaker (λ (n : ℕ). n ≤ r.word) (λ (n : ℕ). n ≤ new) (λ n le. omega arith) me.0.looked f.below;
              holds = λ l none_is. no_some none_is;
            }
            (λ j v other g. record {
              number = g.number;
              opened = g.opened;
              begins = starts_longer r.log v.seen (e ∷ []) g.begins;
              all_mine = calls_other j r.log e (λ by. other (sym by ∙ f.number)) ∙ g.all_mine;
              seen_mine = g.seen_mine;
              below = All-weaker (λ (n : ℕ). n ≤ r.word) (λ (n : ℕ). n ≤ new) (λ n le. omega arith) v.looked g.below;
              holds = λ l has. absurd (other (sym (taken_same (sym mine.1 ∙ (g.holds l has).1))));
            })
            (λ k none_is. not_taken none_is)
            (λ zero_is. let l = r.first_seat me.0 (subst (λ (k : ℕ). get_elem? s.views k ≡ some me.0) zero_is at) live in
            All-weaker (λ (z : Ended O R). (0 < z.number) × IsEndedIn r.log z) (IsEndedIn (log ++ e ∷ []))
            (λ z g. let pos = g.0 in (
              calls_other z.number log e (λ by. let a : z.number ≡ 0 = sym by ∙ (f.number ∙ zero_is) in omega arith) ∙ (ap (calls_by z.number) is ∙ g.1.0),
              starts_longer log z.seen (e ∷ []) (subst (λ (q : List (Entry O R)). StartsWith q z.seen) (sym is) g.1.1),
              starts_longer log z.before (e ∷ []) (subst (λ (q : List (Entry O R)). StartsWith q z.before) (sym is) g.1.2),
            )) me.0.ended
            (ended_in_log r.log r.word s.views me.0.seen me.0.ended f.begins l.ended_fit l.ended_seen))),
        (λ log2 slot2 last2 turn2 carries2 tells2.
            let a : log ≡ log2 = inject (sym turn ∙ turn2) in
            let b : slot ≡ slot2 = ap (first_slot slot) (sym carries ∙ carries2) in
            let c : last ≡ last2 = inject (sym tells ∙ (ap (λ (q : Slot T O R). q.last) b ∙ tells2)) in
            λ i. (view_after (a i) (entry me.0.number (c i).op.value (c i).reply.value) me.0, rest (carries i))),
      )

  pub starts_now : (items : List (Slot T O R)) (h : Slot T O R) (none_told : ℕ) → items ≡ h ∷ [] → h.value ≡ Some first → 2 ^ 63 ≤ none_told → HasOneHistory step_of is_open is_idle first (opening (0 ∷ none_told ∷ []) items (first_view first))
  starts_now items h none_told is valued high = record {
    log = [];
    value = first;
    legal = refl;
    phase = free;
    word = 0;
    idle = none_told;
    words_are = refl;
    idle_front = λ low. absurd (omega arith);
    stands = (refl, (h, ap (map some) is, valued));
    others_open = All-nil (λ (z : Entry O R). z.by ≢ 0 → is_open z.op ≡ true);
    by_below = All-nil (λ (z : Entry O R). z.by < 1);
    each_seat = each;
    taker = λ k is_taken. not_taken is_taken;
    first_seat = λ v at live. subst (FirstFits [] 0 (first_view first ∷ [])) (some-injective _ _ at) record {
      made_is = refl;
      ended_fit = All-nil (EndedFits [] 0 (first_view first ∷ []));
      ended_seen = All-nil (IsEndedIn []);
      distinct = λ i j d lt wide. absurd (omega arith);
      each_spent = none_spent;
      count = refl;
    };
  }
    where
      each : (j : ℕ) (v : View T O R) → get_elem? (first_view first ∷ []) j ≡ some v → is_live v ≡ true → SeatFits first [] 0 free j v
      each zero v e live = subst (SeatFits first [] 0 free 0) (some-injective _ _ e) record {
        number = refl;
        opened = refl;
        begins = ([], refl);
        all_mine = refl;
        seen_mine = refl;
        below = All-nil (λ (n : ℕ). n ≤ 0);
        holds = λ l none_is. no_some none_is;
      }
      each (suc j) v e live = absurd (some-ne-none v (sym e))

      none_spent : (j : ℕ) (u : View T O R) → get_elem? (first_view first ∷ []) j ≡ some u → is_live u ≡ false → HasEnded {O = O} {R = R} j []
      none_spent zero u e dead = dead_live u (first_view first) (sym (some-injective (first_view first) u e)) dead refl
      none_spent (suc j) u e dead = absurd (some-ne-none u (sym e))

  pub splits_now : (id : ℕ) (v : View T O R) → is_live v ≡ true → v.number ≡ 0 → Splits (HasOneHistory step_of is_open is_idle first) id v (split_view v) (new_view v)
  splits_now id v live lead_is s r at = let f = r.each_seat id v at live in let zero_is : id ≡ 0 = sym f.number ∙ lead_is in
      let at0 : get_elem? s.views 0 ≡ some v = subst (λ (k : ℕ). get_elem? s.views k ≡ some v) zero_is at in
      let l = r.first_seat v at0 live in let w : View T O R = split_view v in let u : View T O R = new_view v in let vs : List (View T O R) = set s.views id w in
      let long : length vs ≡ length s.views = length-set s.views id w in let wide : length (vs ++ u ∷ []) ≡ length s.views + 1 = length-append vs (u ∷ []) ∙ ap (λ (n : ℕ). n + 1) long in
      let made_is : length s.views ≡ v.made + 1 = l.made_is in
      let f' : SeatFits first r.log r.word r.phase id w = record { number = f.number; opened = f.opened; begins = f.begins; all_mine = f.all_mine; seen_mine = f.seen_mine; below = f.below; holds = f.holds } in
      let under : All (λ (e : Entry O R). e.by < v.made + 1) r.log = subst (λ (n : ℕ). All (λ (e : Entry O R). e.by < n) r.log) made_is r.by_below in
      let g : SeatFits first r.log r.word r.phase (v.made + 1) u = record {
        number = refl;
        opened = f.opened;
        begins = f.begins;
        all_mine = calls_none (v.made + 1) r.log under;
        seen_mine = calls_none (v.made + 1) v.seen (all_left (λ (e : Entry O R). e.by < v.made + 1) v.seen f.begins.0 (subst (All (λ (e : Entry O R). e.by < v.made + 1)) f.begins.1 under));
        below = All-nil (λ (n : ℕ). n ≤ r.word);
        holds = λ q none_is. no_some none_is;
      } in record {
        log = r.log;
        value = r.value;
        legal = r.legal;
        phase = r.phase;
        word = r.word;
        idle = r.idle;
        words_are = r.words_are;
        idle_front = r.idle_front;
        stands = r.stands;
        others_open = r.others_open;
        by_below = All-weaker (λ (e : Entry O R). e.by < length s.views) (λ (e : Entry O R). e.by < length (vs ++ u ∷ [])) (λ e lt. omega arith) r.log r.by_below;
        each_seat = λ j x here alive. ⊎_elim
            (λ (p : get_elem? vs j ≡ some x). ⊎_elim
            (λ (t : (j ≡ id) × (w ≡ x)). subst (λ (z : ℕ × View T O R). SeatFits first r.log r.word r.phase z.0 z.1) (λ i. (sym t.0 i, t.1 i)) f')
            (λ (t : (j ≢ id) × (get_elem? s.views j ≡ some x)). r.each_seat j x t.1 alive)
            (at_set s.views id j w x p))
            (λ (t : (j ≡ length vs) × (u ≡ x)). subst (λ (z : ℕ × View T O R). SeatFits first r.log r.word r.phase z.0 z.1) (λ i. (sym (t.0 ∙ (long ∙ made_is)) i, t.1 i)) g)
            (at_end vs u x j here);
        taker = λ k is. let t = keeps_taker s r id v w at refl refl k is in (t.0, at_longer vs (u ∷ []) k t.0 t.1, t.2, t.3);
        first_seat = λ x here alive.
            let w_here : get_elem? (vs ++ u ∷ []) 0 ≡ some w = at_longer vs (u ∷ []) 0 w (ap (get_elem? vs) (sym zero_is) ∙ set_here s.views id w (in_range s.views id v at)) in
            subst (FirstFits r.log r.word (vs ++ u ∷ [])) (some-injective w x (sym w_here ∙ here)) record {
              made_is = wide ∙ (omega arith);
              ended_fit = All-weaker (EndedFits r.log r.word s.views) (EndedFits r.log r.word (vs ++ u ∷ [])) (λ e h. record {
                some_number = h.some_number;
                all_mine = h.all_mine;
                below = h.below;
                is_spent = let pos = h.some_number in at_longer vs (u ∷ []) e.number spent_view (set_else s.views id e.number w (λ same. omega arith) ∙ h.is_spent);
              }) v.ended l.ended_fit;
              ended_seen = l.ended_seen;
              distinct = l.distinct;
              each_spent = λ j y there dead. ⊎_elim
                  (λ (p : get_elem? vs j ≡ some y). ⊎_elim
                  (λ (t : (j ≡ id) × (w ≡ y)). dead_live y w (sym t.1) dead live)
                  (λ (t : (j ≢ id) × (get_elem? s.views j ≡ some y)). l.each_spent j y t.1 dead)
                  (at_set s.views id j w y p))
                  (λ (t : (j ≡ length vs) × (u ≡ y)). dead_live y u (sym t.1) dead live)
                  (at_end vs u y j there);
              count = let a = live_snoc vs u live in let b = live_set_same s.views id v w at refl in let c = l.count in omega arith;
            };
      }

  pub joins_now : (id : ℕ) (v : View T O R) (other : ℕ) (u : View T O R) → is_live v ≡ true → v.number ≡ 0 → is_live u ≡ true → u.turn ≡ None → Joins (HasOneHistory step_of is_open is_idle first) id v other u (joined_view v u) spent_view
  joins_now id v other u live lead_is live_u idle s r at apart there' = let f = r.each_seat id v at live in let zero_is : id ≡ 0 = sym f.number ∙ lead_is in
      let w : View T O R = joined_view v u in let vs : List (View T O R) = set s.views id w in let us : List (View T O R) = set vs other spent_view in
      let there : get_elem? s.views other ≡ some u = sym (set_else s.views id other w apart) ∙ there' in let h = r.each_seat other u there live_u in
      let at0 : get_elem? s.views 0 ≡ some v = subst (λ (k : ℕ). get_elem? s.views k ≡ some v) zero_is at in let l = r.first_seat v at0 live in
      let both = longer_is r.log v.seen u.seen f.begins h.begins in
      let long : length us ≡ length s.views = length-set vs other spent_view ∙ length-set s.views id w in
      let pos : 0 < other = (let n : other ≢ 0 = (λ z. apart (z ∙ sym zero_is)) in omega arith) in
      let f' : SeatFits first r.log r.word r.phase id w = record {
        number = f.number;
        opened = f.opened;
        begins = both.2;
        all_mine = f.all_mine;
        seen_mine = calls_between id r.log (longer v.seen u.seen) v.seen v.mine both.2 both.0 f.all_mine f.seen_mine;
        below = f.below;
        holds = f.holds;
      } in
      let us_here : get_elem? us other ≡ some spent_view = set_here vs other spent_view (in_range vs other u there') in
      let was : (j : ℕ) (x : View T O R) → is_live x ≡ true → get_elem? us j ≡ some x → ((j ≡ id) × (w ≡ x)) ⊎ ((j ≢ id) × (get_elem? s.views j ≡ some x)) = λ j x alive here. ⊎_elim
      (λ (t : (j ≡ other) × (spent_view ≡ x)). dead_live spent_view x t.1 refl alive)
      (λ (t : (j ≢ other) × (get_elem? vs j ≡ some x)). at_set s.views id j w x t.1)
      (at_set vs other j spent_view x here) in record {
        log = r.log;
        value = r.value;
        legal = r.legal;
        phase = r.phase;
        word = r.word;
        idle = r.idle;
        words_are = r.words_are;
        idle_front = r.idle_front;
        stands = r.stands;
        others_open = r.others_open;
        by_below = subst (λ (n : ℕ). All (λ (e : Entry O R). e.by < n) r.log) (sym long) r.by_below;
        each_seat = λ j x here alive. ⊎_elim
            (λ (t : (j ≡ id) × (w ≡ x)). subst (λ (z : ℕ × View T O R). SeatFits first r.log r.word r.phase z.0 z.1) (λ i. (sym t.0 i, t.1 i)) f')
            (λ (t : (j ≢ id) × (get_elem? s.views j ≡ some x)). r.each_seat j x t.1 alive)
            (was j x alive here);
        taker = λ k is. let t = keeps_taker s r id v w at refl refl k is in let old = r.taker k is in
            let ne : k ≢ other = (λ same. no_some (sym idle ∙ (ap (λ (z : View T O R). z.turn) (some-injective u old.0 (sym there ∙ (ap (get_elem? s.views) (sym same) ∙ old.1))) ∙ old.3.1))) in
            (t.0, set_else vs other k spent_view ne ∙ t.1, t.2, t.3);
        first_seat = λ x here alive.
            let w_here : get_elem? us 0 ≡ some w = set_else vs other 0 spent_view (λ z. apart (sym z ∙ sym zero_is)) ∙ (ap (get_elem? vs) (sym zero_is) ∙ set_here s.views id w (in_range s.views id v at)) in
            subst (FirstFits r.log r.word us) (some-injective w x (sym w_here ∙ here)) record {
              made_is = long ∙ l.made_is;
              ended_fit = all_snoc (EndedFits r.log r.word us) v.ended (ended_of v u)
                  (All-weaker (EndedFits r.log r.word s.views) (EndedFits r.log r.word us) (λ e q. record {
                    some_number = q.some_number;
                    all_mine = q.all_mine;
                    below = q.below;
                    is_spent = let p = q.some_number in let ne : e.number ≢ other = (λ same. dead_live spent_view u (some-injective spent_view u (sym q.is_spent ∙ (ap (get_elem? s.views) same ∙ there))) refl live_u) in
                        set_else vs other e.number spent_view ne ∙ (set_else s.views id e.number w (λ same. omega arith) ∙ q.is_spent);
                  }) v.ended l.ended_fit)
                  record {
                    some_number = subst (λ (n : ℕ). 0 < n) (sym h.number) pos;
                    all_mine = ap (λ (n : ℕ). calls_by n r.log) h.number ∙ h.all_mine;
                    below = h.below;
                    is_spent = ap (get_elem? us) h.number ∙ us_here;
                  };
              ended_seen = all_snoc (IsEndedIn (longer v.seen u.seen)) v.ended (ended_of v u) (kept_seen l both)
                  (calls_between u.number r.log (longer v.seen u.seen) u.seen u.mine both.2 both.1 (ap (λ (n : ℕ). calls_by n r.log) h.number ∙ h.all_mine) (ap (λ (n : ℕ). calls_by n u.seen) h.number ∙ h.seen_mine), both.1, both.0);
              distinct = all_pairs_push (λ (d e : Ended O R). d.number ≢ e.number) v.ended (ended_of v u) l.distinct
                  (λ k d lt same. let q = l.ended_fit k d lt in dead_live spent_view u (some-injective spent_view u (sym q.is_spent ∙ (ap (get_elem? s.views) (same ∙ h.number) ∙ there))) refl live_u);
              each_spent = λ j y here' dead. ⊎_elim
                  (λ (t : (j ≡ other) × (spent_view ≡ y)). (length v.ended, ended_of v u, at_last v.ended (ended_of v u) (length v.ended) refl, h.number ∙ sym t.0))
                  (λ (t : (j ≢ other) × (get_elem? vs j ≡ some y)). ⊎_elim
                  (λ (q : (j ≡ id) × (w ≡ y)). dead_live y w (sym q.1) dead live)
                  (λ (q : (j ≢ id) × (get_elem? s.views j ≡ some y)). let b = l.each_spent j y q.1 dead in (b.0, b.1, at_longer v.ended (ended_of v u ∷ []) b.0 b.1 b.2, b.3))
                  (at_set s.views id j w y t.1))
                  (at_set vs other j spent_view y here');
              count = let a = live_set_less vs other u spent_view there' live_u refl in let b = live_set_same s.views id v w at refl in let c = l.count in let d = length-append v.ended (ended_of v u ∷ []) in omega arith;
            };
      }
    where
      kept_seen : {log : List (Entry O R)} {word : ℕ} {views : List (View T O R)} → FirstFits log word views v → StartsWith (longer v.seen u.seen) v.seen × StartsWith (longer v.seen u.seen) u.seen × StartsWith log (longer v.seen u.seen)
          → All (IsEndedIn (longer v.seen u.seen)) v.ended
      kept_seen {log} {word} {views} l both = All-weaker (λ (e : Ended O R). EndedFits log word views e × IsEndedIn v.seen e) (IsEndedIn (longer v.seen u.seen))
          (λ e p. (calls_between e.number log (longer v.seen u.seen) v.seen e.mine both.2 both.0 p.0.all_mine p.1.0, starts_in (longer v.seen u.seen) v.seen e.seen both.0 p.1.1, starts_in (longer v.seen u.seen) v.seen e.before both.0 p.1.2)) v.ended
          (all_both (EndedFits log word views) (IsEndedIn v.seen) v.ended l.ended_fit l.ended_seen)

  idle_is : (s : State (Slot T O R) (View T O R)) (r : HasOneHistory step_of is_open is_idle first s) → get_or s.words 1 0 ≡ r.idle
  idle_is s r = ap (λ (ws : List ℕ). get_or ws 1 0) r.words_are

  pub loads_idle_now : (slots id : ℕ) (me : Me (Slot T O R) (View T O R)) → is_live me.0 ≡ true → Allows (HasOneHistory step_of is_open is_idle first) slots id me 1 (λ n. n) (loads_idle step_of is_idle (step slots 1 0 0 none) me)
  loads_idle_now slots id me live s r wide at small = let f = r.each_seat id me.0 at live in let w : View T O R = me.0 in let same = idle_is s r in (
    w,
    keeps,
    tt,
    subst (λ (z : State (Slot T O R) (View T O R)). HasOneHistory step_of is_open is_idle first z) (λ i. record { words = sym (set-get_or s.words 1 0) i; homes = s.homes; views = sym (set_again s.views id me.0 at) i }) r,
    (refl, λ low. subst (λ (n : ℕ). FindsIdle step_of is_idle n me.0) (sym same) (finds r me.0 f.begins f.opened (r.idle_front (omega arith)))),
  )
    where
      finds : {s : State (Slot T O R) (View T O R)} (r : HasOneHistory step_of is_open is_idle first s) (v : View T O R) → StartsWith r.log v.seen → v.opening ≡ Some first → IsIdleFront is_idle r.idle r.log → FindsIdle step_of is_idle r.idle v
      finds r v begins opened front = let cut = legal_split step_of front.0 front.1.0 first r.value (subst (λ (l : List (Entry O R)). IsLegal step_of first l r.value) front.1.1 r.legal) in record {
        log = r.log;
        begins = begins;
        front = front;
        opening = first;
        opened = opened;
        value = cut.0;
        legal = cut.1;
      }

  -- a pass whose last call was answered by an idle reply may tell of it at any time
  pub tells_idle_now : (slots id : ℕ) (me : Me (Slot T O R) (View T O R)) (new : ℕ) → is_live me.0 ≡ true → new ≡ 2 * length me.0.seen → EndsIdle is_idle me.0.seen
      → Allows (HasOneHistory step_of is_open is_idle first) slots id me 1 (λ _. new) (λ _. tells_idle (step slots 1 new 0 none) me new)
  tells_idle_now slots id me new live counted ends s r wide at small = let f = r.each_seat id me.0 at live in let w : View T O R = me.0 in (
    w,
    keeps,
    tt,
    subst (λ (z : State (Slot T O R) (View T O R)). HasOneHistory step_of is_open is_idle first z)
        (λ i. record { words = ap (λ (ws : List ℕ). set ws 1 new) (sym r.words_are) i; homes = s.homes; views = sym (set_again s.views id me.0 at) i })
        (told s r new (me.0.seen, f.begins, counted, ends)),
    refl,
  )
    where
      told : (s : State (Slot T O R) (View T O R)) (r : HasOneHistory step_of is_open is_idle first s) (n : ℕ) → IsIdleFront is_idle n r.log → HasOneHistory step_of is_open is_idle first record { words = r.word ∷ n ∷ []; homes = s.homes; views = s.views }
      told s r n front = record {
        log = r.log;
        value = r.value;
        legal = r.legal;
        phase = r.phase;
        word = r.word;
        idle = n;
        words_are = refl;
        idle_front = λ _. front;
        stands = r.stands;
        others_open = r.others_open;
        by_below = r.by_below;
        each_seat = r.each_seat;
        taker = r.taker;
        first_seat = r.first_seat;
      }

  pub learns_now : (slots id : ℕ) (me : Me (Slot T O R) (View T O R)) → is_live me.0 ≡ true → Allows (HasOneHistory step_of is_open is_idle first) slots id me 0 (λ n. n) (learns step_of is_open (step slots 0 0 0 none) me)
  learns_now slots id me live s r wide at small = let f = r.each_seat id me.0 at live in let w : View T O R = me.0 in (
    w,
    keeps,
    tt,
    subst (λ (z : State (Slot T O R) (View T O R)). HasOneHistory step_of is_open is_idle first z) (λ i. record { words = sym (set-get_or s.words 0 0) i; homes = s.homes; views = sym (set_again s.views id me.0 at) i }) r,
    (refl, knows_now s r id me.0 at live),
  )

  pub closes_now : (ws : List ℕ) (xs : List (Slot T O R)) (id : ℕ) (v : View T O R) (h : Slot T O R) → Final (Seen (HasOneHistory step_of is_open is_idle first) id v) ws xs → is_live v ≡ true → v.number ≡ 0 → v.turn ≡ None → length v.ended ≡ v.made
      → get_elem? xs 0 ≡ some h → (x : T) × (h.value ≡ Some x) × Closes step_of is_open v x
  closes_now ws xs id v h end live lead_is idle all_ended there = let s = end.0 in let r = end.1.0 in let at = end.1.1 in let f = r.each_seat id v at live in let zero_is : id ≡ 0 = sym f.number ∙ lead_is in
      let at0 : get_elem? s.views 0 ≡ some v = subst (λ (k : ℕ). get_elem? s.views k ≡ some v) zero_is at in let l = r.first_seat v at0 live in
      let alone : live_count s.views ≡ 1 = (let a = l.count in let b = l.made_is in omega arith) in
      let dead = λ (j : ℕ) (u : View T O R) (here : get_elem? s.views j ≡ some u) (ne : j ≢ 0). live_one s.views j v u at0 live alone here ne in
      let st : Stands r.value r.log r.word s.homes free = subst (Stands r.value r.log r.word s.homes) (settled r.phase (λ k is. let t = r.taker k is in dite (ℕ_discrete k 0)
      (λ (z : k ≡ 0). no_some (sym idle ∙ (ap (λ (w : View T O R). w.turn) (some-injective v t.0 (sym at0 ∙ (ap (get_elem? s.views) (sym z) ∙ t.1))) ∙ t.3.1)))
      (λ (ne : k ≢ 0). dead_live t.0 t.0 refl (dead k t.0 t.1 ne) t.2))) r.stands in
      let h' = st.1.0 in let x = r.value in let word : r.word ≡ 2 * length r.log = st.0 in
      let same : h ≡ h' = some-injective h h' (sym there ∙ end.4 0 h' (ap (λ (hs : List (maybe.Option (Slot T O R))). get_elem? hs 0) st.1.1)) in
      let covered_now : All (λ (e : Entry O R). (e.by ≡ v.number) ⊎ HasEnded e.by v.ended) r.log = All-weaker (λ (e : Entry O R). e.by < length s.views) (λ (e : Entry O R). (e.by ≡ v.number) ⊎ HasEnded e.by v.ended) (λ e lt. let u = at_some s.views e.by lt in dite (ℕ_discrete e.by 0)
      (λ z. inl (z ∙ sym lead_is)) (λ ne. inr (l.each_spent e.by u.0 u.1 (dead e.by u.0 u.1 ne)))) r.log r.by_below in
      let small = λ (k : ℕ) (le : k ≤ r.word). (let z : k ≤ 2 * length r.log + 1 = omega arith in z) in (
        x,
        ap (λ (q : Slot T O R). q.value) same ∙ st.1.2,
        record {
          log = r.log;
          opening = first;
          opened = f.opened;
          legal = r.legal;
          begins = f.begins;
          all_mine = ap (λ (n : ℕ). calls_by n r.log) f.number ∙ f.all_mine;
          ended_in = All-weaker (λ (e : Ended O R). (0 < e.number) × IsEndedIn r.log e) (IsEndedIn r.log) (λ e p. p.1) v.ended (ended_in_log r.log r.word s.views v.seen v.ended f.begins l.ended_fit l.ended_seen);
          others_open = r.others_open;
          by_made = All-weaker (λ (e : Entry O R). e.by < length s.views) (λ (e : Entry O R). e.by ≤ v.made) (λ e lt. let b = l.made_is in omega arith) r.log r.by_below;
          covered = covered_now;
          distinct = l.distinct;
          counted = let all = all_counted r.log v.ended (All-weaker (λ (e : Entry O R). (e.by ≡ v.number) ⊎ HasEnded e.by v.ended) (λ (e : Entry O R). (e.by ≡ 0) ⊎ HasEnded e.by v.ended) (λ e c. ⊎_elim (λ (z : e.by ≡ v.number). inl (z ∙ lead_is)) (λ h. inr h) c) r.log covered_now) l.distinct (All-weaker (EndedFits r.log r.word s.views) (λ (e : Ended O R). 0 < e.number) (λ e p. p.some_number) v.ended l.ended_fit)
              (All-weaker (EndedFits r.log r.word s.views) (λ (e : Ended O R). calls_by e.number r.log ≡ e.mine) (λ e p. p.all_mine) v.ended l.ended_fit) in
              all ∙ ap (λ (m : List (Entry O R)). length m + sum_by (λ (e : Ended O R). length e.mine) v.ended) (ap (λ (n : ℕ). calls_by n r.log) (sym zero_is) ∙ f.all_mine);
          looked_below = All-weaker (λ (n : ℕ). n ≤ r.word) (λ (n : ℕ). n ≤ 2 * length r.log + 1) small v.looked f.below;
          ended_below = All-weaker (EndedFits r.log r.word s.views) (λ (e : Ended O R). All (λ (n : ℕ). n ≤ 2 * length r.log + 1) e.looked)
              (λ e p. All-weaker (λ (n : ℕ). n ≤ r.word) (λ (n : ℕ). n ≤ 2 * length r.log + 1) small e.looked p.below) v.ended l.ended_fit;
        },
      )
    where
      settled : (p : Phase) → ((k : ℕ) → p ≡ taken k → ⊥) → p ≡ free
      settled free not_so = refl
      settled (taken k) not_so = absurd (not_so k refl)
