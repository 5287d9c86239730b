-- What a turn gives its caller.
use Rattle.std.proofs.Common.{◌≡◌, ◌≢◌, ℕ, ◌+◌, ◌*◌, ◌<◌, ◌≤◌, ◌^◌, ◌%◌, Bool, true, List, [], ◌∷◌, ◌++◌, length, refl, sym, ap, ◌∙◌, subst, arith, append-nil, length-append}
use Rattle.std.proofs.lemmas.List.{append_assoc}
use Rattle.std.proofs.lemmas.List.Elements.{All-nil, All-head, All-weaker}
use Rattle.std.specs.Prelude.{All, Some}
use mathlib.Core.Logic.{⊎_elim}
use Rattle.atomic_table.specs.Table.{Me, rest}
use Rattle.eql_turn_lock.specs.declared.history.Entry.{Entry}
use Rattle.eql_turn_lock.specs.declared.view.Ended.{Ended}
use Rattle.eql_turn_lock.specs.declared.slot.Slot.{Slot}
use Rattle.eql_turn_lock.specs.declared.view.View.{View}
use Rattle.eql_turn_lock.specs.History.{StartsWith, entry, calls_by, OthersOpen, IsLegal}
use Rattle.eql_turn_lock.specs.Passes.{IsEndedIn, first_view, split_view, new_view, ended_of, joined_view, KnowsHistory}
use Rattle.eql_turn_lock.specs.Rule.{looked_at, view_after, HoldsTurn, IsSameBut, FindsIdle}
use Rattle.eql_turn_lock.specs.Tries.{LostTry, turn_held, word_moved, IsLost, words_of}
use Rattle.eql_turn_lock.specs.Calls.{MayPlay, Plays, PlaysOnce, PlaysLooking, IsUnplayed, MeetsIdle}
use Rattle.eql_turn_lock.proofs.Histories.{all_right, all_snoc, calls_mine, calls_other, starts_longer, legal_snoc, legal_split, rest_is_of_others, still_allowed}
use Rattle.eql_turn_lock.proofs.Views.{calls_none, prefix_of}

words_more : (tries : List LostTry) (last : LostTry) → words_of (tries ++ last ∷ []) ≡ words_of tries ++ words_of (last ∷ [])
words_more [] last = refl
words_more (turn_held loaded ∷ tries) last = ap (λ (l : List ℕ). loaded ∷ l) (words_more tries last)
words_more (word_moved loaded found ∷ tries) last = ap (λ (l : List ℕ). loaded ∷ found ∷ l) (words_more tries last)

module _ {T O R : Type 0} where
  -- tries took no turn, and nothing else was done
  abbrev pub OnlyTried : View T O R → View T O R → Type 0
  OnlyTried v w = IsUnplayed v w × (w.turn ≡ v.turn) × ((tries : List LostTry) × All IsLost tries × (w.looked ≡ v.looked ++ words_of tries))

  tried_more : (v a : View T O R) (last : LostTry) → OnlyTried v a → IsLost last → OnlyTried v (record a { looked = a.looked ++ words_of (last ∷ []) })
  tried_more v a last only lost = let tries = only.2.0 in let more = words_of (last ∷ []) in (
    only.0,
    only.1,
    (
      tries ++ last ∷ [],
      all_snoc IsLost tries last only.2.1 lost,
      ap (λ (l : List ℕ). l ++ more) only.2.2 ∙ (append_assoc v.looked (words_of tries) more ∙ ap (λ (l : List ℕ). v.looked ++ l) (sym (words_more tries last))),
    ),
  )

  -- the turn was held once more
  pub tried_held : (v a b : View T O R) (n : ℕ) → OnlyTried v a → n < 2 ^ 63 → n % 2 ≡ 1 → b ≡ looked_at n a → OnlyTried v b
  tried_held v a b n only low odd is = subst (OnlyTried v) (sym is) (tried_more v a (turn_held n) only (low, odd))

  -- the word moved once more
  pub tried_moved : (v a b : View T O R) (n found : ℕ) → OnlyTried v a → n < 2 ^ 63 → n % 2 ≡ 0 → found ≢ n → b ≡ looked_at found (looked_at n a) → OnlyTried v b
  tried_moved v a b n found only low even other is = subst (OnlyTried v)
      (sym (is ∙ ap (λ (l : List ℕ). record a { looked = l }) (append_assoc a.looked (n ∷ []) (found ∷ []))))
      (tried_more v a (word_moved n found) only (low, even, other))

module _ {O R : Type 0} where
  -- the word goes up by two with the entry
  pub turn_counted : (word : ℕ) (log : List (Entry O R)) (e : Entry O R) (seen : List (Entry O R)) → word ≡ 2 * length log → seen ≡ log ++ e ∷ [] → word + 2 ≡ 2 * length seen
  turn_counted word log e seen long is = let a = length-append log (e ∷ []) in let b : length seen ≡ length (log ++ e ∷ []) = ap (λ (l : List (Entry O R)). length l) is in omega arith

module _ {H : Type 0} where
  pub carries_on : (l c : List (ℕ × H)) (x : H) → l ≡ (0, x) ∷ rest c → l ≡ (0, x) ∷ rest l
  carries_on l c x e = e ∙ ap (λ (z : List (ℕ × H)). (0, x) ∷ z) (sym (ap rest e))

  pub carries_one : (l : List (ℕ × H)) (x : H) → l ≡ (0, x) ∷ [] → l ≡ (0, x) ∷ rest l
  carries_one l x e = e ∙ ap (λ (z : List (ℕ × H)). (0, x) ∷ z) (sym (ap rest e))

  pub exchanged_one : {V : Type 0} (m m' : V × List (ℕ × H)) (h new : H) → m.1 ≡ (0, h) ∷ [] → m' ≡ (m.0, (0, new) ∷ rest m.1) → (m'.1 ≡ (0, new) ∷ []) × (m'.0 ≡ m.0)
  exchanged_one {V} m m' h new has is = (ap (λ (z : V × List (ℕ × H)). z.1) is ∙ ap (λ (z : List (ℕ × H)). (0, new) ∷ rest z) has, ap (λ (z : V × List (ℕ × H)). z.0) is)

  abbrev head_or : H → List (ℕ × H) → H
  head_or d [] = d
  head_or d (x ∷ xs) = x.1

  -- the value that was taken out is the one that the seat has
  pub same_held : (l : List (ℕ × H)) (h x : H) → l ≡ (0, h) ∷ [] → l ≡ (0, x) ∷ rest l → x ≡ h
  same_held l h x a b = ap (head_or x) (sym b ∙ a)

module _ {T O R : Type 0} (allows : T → O → Type 0) (step_of : T → O → R → T → Type 0) (is_open : O → Bool)
    (opens : (x : T) (op : O) → is_open op ≡ true → allows x op)
    (stays : (x y : T) (op later : O) (reply : R) → is_open op ≡ true → step_of x op reply y → allows x later → allows y later) where
  pub may_play_now : (n : ℕ) (m : Me (Slot T O R) (View T O R)) (op : O) (t : HoldsTurn step_of is_open n m) → MayPlay allows step_of is_open m.0 op → allows t.value op
  may_play_now n m op t may = ⊎_elim
      (λ (is : is_open op ≡ true). opens t.value op is)
      (λ (f : (m.0.number ≡ 0) × ((opening x : T) → m.0.opening ≡ Some opening → IsLegal step_of opening m.0.seen x → allows x op)).
      let seen = m.0.seen in let after = t.begins.0 in let is = t.begins.1 in
      let cut = legal_split step_of seen after t.opening t.value (subst (λ (l : List (Entry O R)). IsLegal step_of t.opening l t.value) is t.legal) in
      still_allowed step_of allows is_open stays after cut.0 t.value op
      (subst (λ (k : ℕ). calls_by k after ≡ []) f.0 (rest_is_of_others m.0.number t.log seen after m.0.mine is t.all_mine t.seen_mine))
      (all_right (λ (z : Entry O R). z.by ≢ 0 → is_open z.op ≡ true) seen after (subst (OthersOpen is_open) is t.others_open))
      cut.2 (f.1 t.opening cut.0 t.opened cut.1))
      may

module _ {T O R : Type 0} (allows : T → O → Type 0) (step_of : T → O → R → T → Type 0) (is_open : O → Bool) where
  pub open_or_first : (v : View T O R) (op op' : O) → op' ≡ op → MayPlay allows step_of is_open v op → v.number ≢ 0 → is_open op' ≡ true
  open_or_first v op op' same may not = ⊎_elim (λ (is : is_open op ≡ true). ap is_open same ∙ is)
      (λ (f : (v.number ≡ 0) × ((opening x : T) → v.opening ≡ Some opening → IsLegal step_of opening v.seen x → allows x op)). absurd (not f.0)) may

  pub has_played : (n : ℕ) (m : Me (Slot T O R) (View T O R)) (op : O) (reply : R) (y : T) (w : View T O R) (t : HoldsTurn step_of is_open n m) → MayPlay allows step_of is_open m.0 op → step_of t.value op reply y
      → w ≡ view_after t.log (entry m.0.number op reply) m.0 → PlaysLooking [] step_of is_open m.0 op reply w
  has_played n m op reply y w t may steps is = let e : Entry O R = entry m.0.number op reply in subst (λ (z : View T O R). PlaysLooking [] step_of is_open m.0 op reply z) (sym is) record {
    between = t.begins.0;
    between_others = rest_is_of_others m.0.number t.log m.0.seen t.begins.0 m.0.mine t.begins.1 t.all_mine t.seen_mine;
    between_open = all_right (λ (z : Entry O R). z.by ≢ 0 → is_open z.op ≡ true) m.0.seen t.begins.0 (subst (OthersOpen is_open) t.begins.1 t.others_open);
    seen = ap (λ (l : List (Entry O R)). l ++ e ∷ []) t.begins.1;
    mine = refl;
    knows = record {
      opening = t.opening;
      opened = t.opened;
      value = y;
      legal = legal_snoc step_of t.log e t.opening t.value y t.legal steps;
      own = calls_mine m.0.number t.log e refl ∙ ap (λ (l : List (Entry O R)). l ++ e ∷ []) t.all_mine;
      others_open = all_snoc (λ (z : Entry O R). z.by ≢ 0 → is_open z.op ≡ true) t.log e t.others_open (open_or_first m.0 op op refl may);
      by_made = λ zero_is. all_snoc (λ (z : Entry O R). z.by ≤ m.0.made) t.log e (t.by_made zero_is) (omega arith);
      ended_in = λ zero_is. All-weaker (λ (z : Ended O R). (0 < z.number) × IsEndedIn t.log z) (IsEndedIn (t.log ++ e ∷ []))
          (λ z g. let pos = g.0 in (calls_other z.number t.log e (λ by. let a : z.number ≡ 0 = sym by ∙ zero_is in omega arith) ∙ g.1.0, starts_longer t.log z.seen (e ∷ []) g.1.1, starts_longer t.log z.before (e ∷ []) g.1.2)) m.0.ended (t.ended_all zero_is);
      distinct = t.distinct;
    };
    same = (refl, refl, refl, refl);
    looked_is = sym (append-nil m.0.looked);
  }

  -- what was played after words were met, where the views before the turn differ in these words alone
  played_looking : (v b : View T O R) (looked : List ℕ) (op : O) (reply : R) (w : View T O R) → IsUnplayed v b → b.looked ≡ v.looked ++ looked → PlaysLooking [] step_of is_open b op reply w → PlaysLooking looked step_of is_open v op reply w
  played_looking v b looked op reply w start looked_is p = record {
    between = p.between;
    between_others = subst (λ (k : ℕ). calls_by k p.between ≡ []) start.2 p.between_others;
    between_open = p.between_open;
    seen = p.seen ∙ (λ i. (start.0 i ++ p.between) ++ entry (start.2 i) op reply ∷ []);
    mine = p.mine ∙ (λ i. start.1 i ++ entry (start.2 i) op reply ∷ []);
    knows = p.knows;
    same = (p.same.0 ∙ start.2, p.same.1 ∙ start.3, p.same.2 ∙ start.4, p.same.3 ∙ start.5);
    looked_is = p.looked_is ∙ (append-nil b.looked ∙ looked_is);
  }

  unplayed_but : (v a b : View T O R) (n : ℕ) → IsUnplayed v a → IsSameBut (looked_at n a) b → IsUnplayed v b
  unplayed_but v a b n start same = (same.2 ∙ start.0, same.3 ∙ start.1, same.0 ∙ start.2, same.1 ∙ start.3, same.5 ∙ start.4, same.6 ∙ start.5)

  -- the last word that was met is small, and so are those before it
  pub played_after : (v a b : View T O R) (n : ℕ) (op : O) (reply : R) (w : View T O R) → OnlyTried v a → All (λ (k : ℕ). k ≤ n) a.looked → n < 2 ^ 63 → IsSameBut (looked_at n a) b
      → PlaysLooking [] step_of is_open b op reply w → n + 2 ≡ 2 * length w.seen → Plays step_of is_open v op reply w
  played_after v a b n op reply w only small low same p counted = let tries = only.2.0 in let words = words_of tries in let met = only.2.2 in (
    tries,
    n,
    played_looking v b (words ++ n ∷ []) op reply w (unplayed_but v a b n only.0 same) (same.4 ∙ (ap (λ (l : List ℕ). l ++ n ∷ []) met ∙ append_assoc v.looked words (n ∷ []))) p,
    all_snoc (λ (k : ℕ). k < 2 ^ 63) words n
        (All-weaker (λ (k : ℕ). k ≤ n) (λ (k : ℕ). k < 2 ^ 63) (λ k le. omega arith) words
        (all_right (λ (k : ℕ). k ≤ n) v.looked words (subst (λ (l : List ℕ). All (λ (k : ℕ). k ≤ n) l) met small)))
        low,
    counted,
    only.2.1,
  )

  pub played_once : (v b : View T O R) (n : ℕ) (op : O) (reply : R) (w : View T O R) → n < 2 ^ 63 → IsSameBut (looked_at n v) b → PlaysLooking [] step_of is_open b op reply w → n + 2 ≡ 2 * length w.seen → PlaysOnce step_of is_open v op reply w
  played_once v b n op reply w low same p counted =
      (n, played_looking v b (n ∷ []) op reply w (unplayed_but v v b n (refl, refl, refl, refl, refl, refl) same) same.4 p, low, counted)

module _ {T O R : Type 0} where
  -- what a load after a join tells
  pub joined_seen : (v u : View T O R) (w : View T O R) → w ≡ joined_view v u → All (IsEndedIn w.seen) w.ended → StartsWith w.seen v.seen × StartsWith w.seen u.seen
  joined_seen v u w is all = let e : Ended O R = ended_of v u in
      let last = All-head (IsEndedIn w.seen) e [] (all_right (IsEndedIn w.seen) v.ended (e ∷ []) (subst (All (IsEndedIn w.seen)) (ap (λ (z : View T O R). z.ended) is) all)) in (last.2, last.1)

  module _ (step_of : T → O → R → T → Type 0) (is_idle : R → Bool) where
    found_idle : (v : View T O R) (word : ℕ) → word < 2 ^ 63 → 2 * length v.seen ≤ word → FindsIdle step_of is_idle word (looked_at word v) → MeetsIdle step_of is_idle v (looked_at word v)
    found_idle v word low counts found = let front = found.front in let long : word ≡ 2 * length front.0 = front.2 in record {
      word = word;
      low = low;
      looked_is = refl;
      log = front.0;
      counted = long;
      begins = prefix_of v.seen front.0 found.begins.0 front.1.0 (sym found.begins.1 ∙ front.1.1) (omega arith);
      ends_idle = front.3;
      opening = found.opening;
      opened = found.opened;
      value = found.value;
      legal = found.legal;
    }

    -- of a word that is the idle word, where nothing was done between the two loads
    pub met_idle : (v a w : View T O R) (word idle : ℕ) → word < 2 ^ 63 → idle ≡ word → a ≡ looked_at word v → w ≡ a → 2 * length v.seen ≤ word → (idle < 2 ^ 63 → FindsIdle step_of is_idle idle a) → IsUnplayed v w × MeetsIdle step_of is_idle v w
    met_idle v a w word idle low same is then counts found =
        let low_idle : idle < 2 ^ 63 = omega (arith, same) in
        let there : FindsIdle step_of is_idle word (looked_at word v) = subst (λ (z : ℕ × View T O R). FindsIdle step_of is_idle z.0 z.1) (λ i. (same i, is i)) (found low_idle) in
        subst (λ (z : View T O R). IsUnplayed v z × MeetsIdle step_of is_idle v z) (sym (then ∙ is)) ((refl, refl, refl, refl, refl, refl), found_idle v word low counts there)

  module _ (step_of : T → O → R → T → Type 0) (is_open : O → Bool) where
    -- a word more changes nothing of the history
    pub knows_looked : (word : ℕ) (v : View T O R) → KnowsHistory step_of is_open v → KnowsHistory step_of is_open (looked_at word v)
    knows_looked word v k = record { opening = k.opening; opened = k.opened; value = k.value; legal = k.legal; own = k.own; others_open = k.others_open; by_made = k.by_made; ended_in = k.ended_in; distinct = k.distinct }

    pub knows_first : (v : View T O R) → v.number ≡ 0 → KnowsHistory step_of is_open v → KnowsHistory step_of is_open (split_view v) × KnowsHistory step_of is_open (new_view v)
    knows_first v zero_is k = (
      record {
        opening = k.opening;
        opened = k.opened;
        value = k.value;
        legal = k.legal;
        own = k.own;
        others_open = k.others_open;
        by_made = λ _. All-weaker (λ (e : Entry O R). e.by ≤ v.made) (λ (e : Entry O R). e.by ≤ v.made + 1) (λ e le. omega arith) v.seen (k.by_made zero_is);
        ended_in = k.ended_in;
        distinct = k.distinct;
      },
      record {
        opening = k.opening;
        opened = k.opened;
        value = k.value;
        legal = k.legal;
        own = calls_none (v.made + 1) v.seen (All-weaker (λ (e : Entry O R). e.by ≤ v.made) (λ (e : Entry O R). e.by < v.made + 1) (λ e le. omega arith) v.seen (k.by_made zero_is));
        others_open = k.others_open;
        by_made = λ none_is. absurd (omega arith);
        ended_in = λ none_is. absurd (omega arith);
        distinct = λ none_is. absurd (omega arith);
      },
    )

    pub knows_new : (opening : T) → KnowsHistory step_of is_open (first_view {O = O} {R = R} opening)
    knows_new opening = record {
      opening = opening;
      opened = refl;
      value = opening;
      legal = refl;
      own = refl;
      others_open = All-nil (λ (e : Entry O R). e.by ≢ 0 → is_open e.op ≡ true);
      by_made = λ _. All-nil (λ (e : Entry O R). e.by ≤ 0);
      ended_in = λ _. All-nil (IsEndedIn {O = O} {R = R} []);
      distinct = λ _ i j d lt wide. absurd (omega arith);
    }
