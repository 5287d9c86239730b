-- What becomes of the letters along a history.
use Rattle.std.proofs.Common.{◌≡◌, ◌≢◌, ℕ, Bool, true, false, true≢false, List, [], ◌∷◌, ◌++◌, length, refl, sym, ap, ◌∙◌, subst, eqb, arith, append-nil, length-append}
use Rattle.std.proofs.lemmas.Bool.Decides.{eqb_tells}
use Rattle.std.proofs.lemmas.List.{append_assoc}
use Rattle.std.proofs.lemmas.List.Elements.{All-head, All-tail}
use Rattle.std.specs.Prelude.{◌≤◌, Option, Some, None, if◌then◌else◌}
use Rattle.std.specs.VecDeque.{deque_capacity}
use mathlib.Core.Logic.{inr, ⊎_elim}
use Rattle.eql_turn_lock.specs.declared.history.Entry.{Entry}
use Rattle.eql_turn_lock.specs.declared.view.View.{View}
use Rattle.eql_turn_lock.specs.History.{StartsWith, entry, calls_by, OthersOpen, IsLegal}
use Rattle.eql_turn_lock.specs.Passes.{first_view, split_view, joined_view, KnowsHistory}
use Rattle.eql_turn_lock.specs.Calls.{MayPlay}
use Rattle.eql_turn_lock_tests.specs.declared.tray.Tray.{Tray}
use Rattle.eql_turn_lock_tests.specs.declared.tray.TrayOp.{TrayOp}
use Rattle.eql_turn_lock_tests.specs.declared.tray.TrayOp.TheVariants.{Deliver, Take}
use Rattle.eql_turn_lock_tests.specs.declared.tray.TrayReply.{TrayReply}
use Rattle.eql_turn_lock_tests.specs.declared.tray.TrayReply.TheVariants.{Delivered, Taken}
use Rattle.eql_turn_lock_tests.specs.Trays.{TrayAllows, IsTrayStep, tray_open, letters_in, letters_out, letters_delivered, letters_taken, SawRoom, IsFresh}

pub starts_in : {X : Type 0} (log seen xs : List X) → StartsWith log seen → StartsWith seen xs → StartsWith log xs
starts_in {X} log seen xs a b = (b.0 ++ a.0, a.1 ∙ (ap (λ (l : List X). l ++ a.0) b.1 ∙ append_assoc xs b.0 a.0))

-- one step: what was there and came in is what went out and is there
one_step : (x y : Tray) (op : TrayOp) (reply : TrayReply) → IsTrayStep x op reply y → x.letters.items ++ letters_in op ≡ letters_out reply ++ y.letters.items
one_step x y (Deliver letter) Delivered step = sym step.0
one_step x y Take (Taken letter) step = append-nil x.letters.items ∙ step.0
one_step x y (Deliver letter) (Taken letter') step = absurd step
one_step x y Take Delivered step = absurd step

-- the same along a history
pub none_lost : (log : List (Entry TrayOp TrayReply)) (x y : Tray) → IsLegal IsTrayStep x log y → x.letters.items ++ letters_delivered log ≡ letters_taken log ++ y.letters.items
none_lost [] x y legal = append-nil x.letters.items ∙ ap (λ (t : Tray). t.letters.items) legal
none_lost (e ∷ es) x y legal = let z : Tray = legal.0 in let here = one_step x z e.op e.reply legal.1 in let later = none_lost es z y legal.2 in
    sym (append_assoc x.letters.items (letters_in e.op) (letters_delivered es)) ∙ (ap (λ (l : List ℕ). l ++ letters_delivered es) here ∙ (append_assoc (letters_out e.reply) z.letters.items (letters_delivered es)
    ∙ (ap (λ (l : List ℕ). letters_out e.reply ++ l) later ∙ sym (append_assoc (letters_out e.reply) (letters_taken es) y.letters.items))))

open_brings_none : (op : TrayOp) → tray_open op ≡ true → letters_in op ≡ []
open_brings_none (Deliver letter) is = absurd (true≢false (sym is))
open_brings_none Take is = refl

-- the first pass alone delivers
pub delivered_mine : (log : List (Entry TrayOp TrayReply)) → OthersOpen tray_open log → letters_delivered log ≡ letters_delivered (calls_by 0 log)
delivered_mine [] others = refl
delivered_mine (e ∷ es) others = let rest = delivered_mine es (All-tail (λ (z : Entry TrayOp TrayReply). z.by ≢ 0 → tray_open z.op ≡ true) e es others) in
    ⊎_elim
    (λ (t : (eqb e.by 0 ≡ true) × (e.by ≡ 0)). ap (λ (l : List ℕ). letters_in e.op ++ l) rest ∙ sym (ap (λ (b : Bool). letters_delivered (if b then e ∷ calls_by 0 es else calls_by 0 es)) t.0))
    (λ (t : (eqb e.by 0 ≡ false) × (e.by ≢ 0)). ap (λ (l : List ℕ). l ++ letters_delivered es) (open_brings_none e.op (All-head (λ (z : Entry TrayOp TrayReply). z.by ≢ 0 → tray_open z.op ≡ true) e es others t.1))
    ∙ (rest ∙ sym (ap (λ (b : Bool). letters_delivered (if b then e ∷ calls_by 0 es else calls_by 0 es)) t.0)))
    (eqb_tells e.by 0)

taken_append : (xs ys : List (Entry TrayOp TrayReply)) → letters_taken (xs ++ ys) ≡ letters_taken xs ++ letters_taken ys
taken_append [] ys = refl
taken_append (e ∷ es) ys = ap (λ (l : List ℕ). letters_out e.reply ++ l) (taken_append es ys) ∙ sym (append_assoc (letters_out e.reply) (letters_taken es) (letters_taken ys))

one_room : (x y : Tray) (op : TrayOp) (reply : TrayReply) → IsTrayStep x op reply y → deque_capacity y.letters ≡ deque_capacity x.letters
one_room x y (Deliver letter) Delivered step = step.1
one_room x y Take (Taken letter) step = step.3
one_room x y (Deliver letter) (Taken letter') step = absurd step
one_room x y Take Delivered step = absurd step

-- a tray keeps its room
same_room : (log : List (Entry TrayOp TrayReply)) (x y : Tray) → IsLegal IsTrayStep x log y → deque_capacity y.letters ≡ deque_capacity x.letters
same_room [] x y legal = ap (λ (t : Tray). deque_capacity t.letters) (sym legal)
same_room (e ∷ es) x y legal = same_room es legal.0 y legal.2 ∙ one_room x legal.0 e.op e.reply legal.1

-- the room that the other pass saw is there after the join
pub room_after : (first other after : View Tray TrayOp TrayReply) (letter : ℕ) → first.number ≡ 0 → SawRoom first other → after ≡ joined_view first other → KnowsHistory IsTrayStep tray_open after → StartsWith after.seen other.seen
    → MayPlay TrayAllows IsTrayStep tray_open after (Deliver letter)
room_after first other after letter zero_is room is knows begins = inr (
  number,
  λ opening x opened legal.
      let own : calls_by 0 after.seen ≡ first.mine = subst (λ (n : ℕ). calls_by n after.seen ≡ after.mine) number knows.own ∙ ap (λ (v : View Tray TrayOp TrayReply). v.mine) is in
      let moved = ap (λ (l : List ℕ). length l) (none_lost after.seen opening x legal) in
      let before = length-append opening.letters.items (letters_delivered after.seen) in
      let after_is = length-append (letters_taken after.seen) x.letters.items in
      let brought : length (letters_delivered after.seen) ≡ length (letters_delivered first.mine) = ap (λ (l : List ℕ). length l) (delivered_mine after.seen knows.others_open ∙ ap letters_delivered own) in
      let out : length (letters_taken after.seen) ≡ length (letters_taken other.seen ++ letters_taken begins.0) = ap (λ (l : List ℕ). length l) (ap letters_taken begins.1 ∙ taken_append other.seen begins.0) in
      let outs = length-append (letters_taken other.seen) (letters_taken begins.0) in
      let long = x.letters.ok.0 in
      let same = same_room after.seen opening x legal in
      let has = room opening (sym (ap (λ (v : View Tray TrayOp TrayReply). v.opening) is) ∙ opened) in omega arith,
)
  where
    number : after.number ≡ 0
    number = ap (λ (v : View Tray TrayOp TrayReply). v.number) is ∙ zero_is

abbrev tray_or : Tray → Option Tray → Tray
tray_or tray None = tray
tray_or tray (Some other) = other

-- a tray that was made empty, after one delivery of the first pass, where the other one saw a letter go out
pub saw_room : (tray : Tray) (v first other : View Tray TrayOp TrayReply) (before : List (Entry TrayOp TrayReply)) (by letter out : ℕ) (answer reply : TrayReply) → tray.letters.items ≡ [] → 1 ≤ deque_capacity tray.letters → v.opening ≡ Some tray → v.mine ≡ []
    → first.opening ≡ v.opening → first.mine ≡ v.mine ++ entry v.number (Deliver letter) answer ∷ [] → reply ≡ Taken (Some out) → other.seen ≡ before ++ entry by Take reply ∷ [] → SawRoom first other
saw_room tray v first other before by letter out answer reply empty room opened none_mine same mine is seen opening is_opening =
    let tray_is : tray ≡ opening = ap (tray_or tray) (sym (same ∙ opened) ∙ is_opening) in
    let nothing : length opening.letters.items ≡ 0 = ap (λ (t : Tray). length t.letters.items) (sym tray_is) ∙ ap (λ (l : List ℕ). length l) empty in
    let wide : deque_capacity opening.letters ≡ deque_capacity tray.letters = ap (λ (t : Tray). deque_capacity t.letters) (sym tray_is) in
    let brought : length (letters_delivered first.mine) ≡ 1 = ap (λ (l : List (Entry TrayOp TrayReply)). length (letters_delivered l)) (mine ∙ ap (λ (l : List (Entry TrayOp TrayReply)). l ++ entry v.number (Deliver letter) answer ∷ []) none_mine) in
    let out_is : length (letters_taken other.seen) ≡ length (letters_taken before ++ out ∷ []) = ap (λ (l : List ℕ). length l) (ap letters_taken (seen ∙ ap (λ (r : TrayReply). before ++ entry by Take r ∷ []) is) ∙ taken_append before (entry by Take (Taken (Some out)) ∷ [])) in
    let outs = length-append (letters_taken before) (out ∷ []) in omega arith

-- the first pass of a new lock
pub fresh_first : (room : ℕ) (tray : Tray) (v : View Tray TrayOp TrayReply) → v ≡ first_view tray → tray.letters.items ≡ [] → room ≤ deque_capacity tray.letters → IsFresh room v
fresh_first room tray v is empty wide = subst (λ (w : View Tray TrayOp TrayReply). IsFresh room w) (sym is) (refl, refl, refl, refl, (tray, refl, empty, wide))

-- a split plays nothing
pub still_fresh : (room : ℕ) (v w : View Tray TrayOp TrayReply) → IsFresh room v → w ≡ split_view v → IsFresh room w
still_fresh room v w fresh is = subst (λ (x : View Tray TrayOp TrayReply). IsFresh room x) (sym is) fresh
