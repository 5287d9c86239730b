-- What a tray of letters does, and what becomes of the letters that are delivered.
use Rattle.std.specs.Prelude.{◌≡◌, ℕ, ◌+◌, ◌<◌, ◌≤◌, Bool, true, false, List, [], ◌∷◌, ◌++◌, length, Some, None, is_none, ⊤}
use Rattle.std.specs.Option.{option_to_list}
use Rattle.std.specs.VecDeque.{deque_len, deque_capacity}
use mathlib.Core.Path.{sym, subst}
use mathlib.Core.Bool.{true≢false}
use native.Mathlib.Nat.{lt_of_le_of_lt}
use Rattle.eql_turn_lock.specs.declared.history.Entry.{Entry}
use Rattle.eql_turn_lock.specs.declared.view.View.{View}
use Rattle.eql_turn_lock.specs.History.{StartsWith}
use Rattle.eql_turn_lock_tests.specs.declared.tray.Tray.{Tray}
use Rattle.eql_turn_lock_tests.specs.declared.tray.TrayOp.{TrayOp}
use Rattle.eql_turn_lock_tests.specs.declared.tray.TrayOp.TheVariants.{Deliver, Take}
use Rattle.eql_turn_lock_tests.specs.declared.tray.TrayReply.{TrayReply}
use Rattle.eql_turn_lock_tests.specs.declared.tray.TrayReply.TheVariants.{Delivered, Taken}

-- a letter is delivered only where there is room
abbrev pub TrayAllows : Tray → TrayOp → Type 0
TrayAllows x (Deliver letter) = deque_len x.letters < deque_capacity x.letters
TrayAllows x Take = ⊤

-- everyone may take a letter
abbrev pub tray_open : TrayOp → Bool
tray_open (Deliver letter) = false
tray_open Take = true

-- nothing is to be done where a letter was asked for and there was none
abbrev pub tray_idle : TrayReply → Bool
tray_idle Delivered = false
tray_idle (Taken letter) = is_none letter

abbrev pub HasSameRoom : Tray → Tray → Type 0
HasSameRoom x y = deque_capacity y.letters ≡ deque_capacity x.letters

-- A letter that is delivered is the last one. The first one is taken, and none only where there is
-- none.
abbrev pub IsTrayStep : Tray → TrayOp → TrayReply → Tray → Type 0
IsTrayStep x (Deliver letter) Delivered y =
    (y.letters.items ≡ x.letters.items ++ letter ∷ []) × HasSameRoom x y
IsTrayStep x Take (Taken letter) y =
    (x.letters.items ≡ option_to_list letter ++ y.letters.items)
    × (letter ≡ None → deque_len x.letters ≡ 0) × (deque_len y.letters ≤ deque_len x.letters)
    × HasSameRoom x y
IsTrayStep x (Deliver letter) (Taken taken) y = ⊥
IsTrayStep x Take Delivered y = ⊥

pub tray_opens : (x : Tray) (op : TrayOp) → tray_open op ≡ true → TrayAllows x op
tray_opens x (Deliver letter) open_is = absurd (true≢false (sym open_is))
tray_opens x Take open_is = tt

pub tray_stays_allowed :
    (x y : Tray) (op later : TrayOp) (reply : TrayReply) → tray_open op ≡ true
    → IsTrayStep x op reply y → TrayAllows x later → TrayAllows y later
tray_stays_allowed x y (Deliver letter) later reply open_is step may =
    absurd (true≢false (sym open_is))
tray_stays_allowed x y Take Take reply open_is step may = tt
tray_stays_allowed x y Take (Deliver letter) (Taken taken) open_is step may =
    subst (λ (n : ℕ). deque_len y.letters < n) (sym step.3) (lt_of_le_of_lt step.2 may)
tray_stays_allowed x y Take (Deliver letter) Delivered open_is step may = absurd step

-- the pass has the number that it had, and split off and took in no other
abbrev pub IsSamePass : {T O R : Type 0} → View T O R → View T O R → Type 0
IsSamePass v w = (w.number ≡ v.number) × (w.made ≡ v.made) × (w.ended ≡ v.ended)

-- the first pass of an empty tray with this room, by which nothing was played yet
abbrev pub IsFresh : ℕ → View Tray TrayOp TrayReply → Type 0
IsFresh room v =
    (v.number ≡ 0) × (v.seen ≡ []) × (v.mine ≡ []) × (v.ended ≡ [])
    × ((tray : Tray) × (v.opening ≡ Some tray) × (tray.letters.items ≡ [])
    × (room ≤ deque_capacity tray.letters))

-- the letters that an operation delivers
abbrev pub letters_in : TrayOp → List ℕ
letters_in (Deliver letter) = letter ∷ []
letters_in Take = []

-- the letters that a reply hands out
abbrev pub letters_out : TrayReply → List ℕ
letters_out Delivered = []
letters_out (Taken letter) = option_to_list letter

-- the letters that the entries delivered, in order
abbrev pub letters_delivered : List (Entry TrayOp TrayReply) → List ℕ
letters_delivered [] = []
letters_delivered (e ∷ es) = letters_in e.op ++ letters_delivered es

-- the letters that the entries took out, in order
abbrev pub letters_taken : List (Entry TrayOp TrayReply) → List ℕ
letters_taken [] = []
letters_taken (e ∷ es) = letters_out e.reply ++ letters_taken es

-- Every letter that the first pass delivered was taken out in the one history or is still in the
-- tray, in order. So none is lost because someone held the turn.
abbrev pub LosesNothing : View Tray TrayOp TrayReply → Tray → Type 0
LosesNothing v tray =
    (log : List (Entry TrayOp TrayReply)) × (opening : Tray) × (v.opening ≡ Some opening)
    × StartsWith log v.seen
    × (opening.letters.items ++ letters_delivered v.mine ≡ letters_taken log ++ tray.letters.items)

-- The tray has room for a letter more than the first pass delivered, once those are out that the
-- other pass saw go out.
abbrev pub SawRoom : View Tray TrayOp TrayReply → View Tray TrayOp TrayReply → Type 0
SawRoom first other =
    (opening : Tray) → first.opening ≡ Some opening
    → length opening.letters.items + length (letters_delivered first.mine) < deque_capacity opening.letters
    + length (letters_taken other.seen)
