use Rattle.std.proofs.Common.{◌≡◌, ◌-◌, ◌<◌, [], ◌∷◌, ◌++◌, length, Some, None, ℕ, false, option_and_then, ◌||◌, refl, sym, ap, ◌∙◌, arith}
use Rattle.json.specs.Token.{Token}
use Rattle.json.specs.Json.{parse_map, after_end_array, read_key, items, value}
use Rattle.json.specs.Reads.{token_of}
use Rattle.json.proofs.Grammar.{value_is, read_key-shorter}
use Rattle.serde_json.specs.Data.{null, boolean, number, string, array, object, put, no_items, no_members}
use Rattle.serde_json.specs.Read.{of_json, of_items, converted, number_of}
use Rattle.eql_lines.specs.Reach.{behind, text, truth, of_number, reach, reach_items, reach_members}
use Rattle.eql_lines.specs.Found.{one, scalar_of}
use Rattle.eql_lines.specs.Numbers.{num_of}
use Rattle.eql_lines.specs.Paths.{rest_at}
use Rattle.eql_lines.specs.Steps.{active_at}
use Rattle.eql_lines.proofs.Reading.{item_read, item_refused, items_over, member_read, member_refused, key_refused, members_over, items_before, one_more_item, none_before}
use Rattle.eql_lines.proofs.Opening.{opened_array, opened_object, no_array, no_object, read_string, read_boolean, read_null, read_number, no_number, read_nothing, some_before, none_before_map}
use Rattle.eql_lines.proofs.Adding.{gains_nothing}
use Rattle.eql_lines.specs.Places.{in_set}
use Rattle.eql_lines.proofs.Bits.{in_none}
use Rattle.eql_lines.proofs.Stepping.{nowhere, nowhere_rest}
use Rattle.eql_lines.proofs.Walking.{number_scalar, gains_then, gains_empty, reach_pushed, still_free, free_after, member_gains, untouched_none}
use Rattle.eql_lines.proofs.walk.+walk.Goals as goal

pub walk_value-returns-in_err-token-clause-err : goal.walk_value-returns-in_err-token-clause-err
walk_value-returns-in_err-token-clause-err t c refused = read_nothing c.args.depth c.args.reader.now (grind arith)

pub walk_member-returns-in_err-token-clause-err : goal.walk_member-returns-in_err-token-clause-err
walk_member-returns-in_err-token-clause-err t c refused = read_nothing c.args.depth c.args.reader.now (grind arith)

pub walk_member-returns-in_ok-add-in-String-clause-ok : goal.walk_member-returns-in_ok-add-in-String-clause-ok
walk_member-returns-in_ok-add-in-String-clause-ok t c =
    let first : c.args.reader.now ≡ token_of c.in_ok-token.token ∷ c.next.new.self = grind arith in
    let s = c.in-String.text.now in
    (string s, read_string c.args.depth c.args.reader.now c.next.new.self s (grind (arith, first)), c.in_ok-add-in-String.ensures.gains (text s) refl)

pub walk_member-returns-in_ok-walk_members-in-BeginObject-clause-ok : goal.walk_member-returns-in_ok-walk_members-in-BeginObject-clause-ok
walk_member-returns-in_ok-walk_members-in-BeginObject-clause-ok t c =
    let first : c.args.reader.now ≡ token_of c.in_ok-token.token ∷ c.next.new.self = grind arith in
    let opened = opened_object c.args.depth c.args.reader.now c.next.new.self (omega arith) (first ∙ ap (λ k. token_of k ∷ c.next.new.self) c.in-BeginObject.is) in
    let found = c.in_ok-walk_members-in-BeginObject.ensures.ok in
    (object found.0, opened ∙ ap (parse_map object) found.1, found.2)

pub walk_member-returns-in_err-walk_members-in-BeginObject-clause-err : goal.walk_member-returns-in_err-walk_members-in-BeginObject-clause-err
walk_member-returns-in_err-walk_members-in-BeginObject-clause-err t c refused =
    let first : c.args.reader.now ≡ token_of c.in_ok-token.token ∷ c.next.new.self = grind arith in
    opened_object c.args.depth c.args.reader.now c.next.new.self (omega arith) (first ∙ ap (λ k. token_of k ∷ c.next.new.self) c.in-BeginObject.is) ∙ ap (parse_map object) (c.walk_members.ensures.err (grind arith))

pub walk_on-returns-then-depth-eq0-clause-err : goal.walk_on-returns-then-depth-eq0-clause-err
walk_on-returns-then-depth-eq0-clause-err t c refused =
    let all = token_of c.args.token ∷ c.args.reader.now in
    no_array c.args.depth all c.args.reader.now (omega arith) (ap (λ k. token_of k ∷ c.args.reader.now) c.in-BeginArray.is)

pub walk_on-returns-then-depth-eq0-2-clause-err : goal.walk_on-returns-then-depth-eq0-2-clause-err
walk_on-returns-then-depth-eq0-2-clause-err t c refused =
    let all = token_of c.args.token ∷ c.args.reader.now in
    no_object c.args.depth all c.args.reader.now (omega arith) (ap (λ k. token_of k ∷ c.args.reader.now) c.in-BeginObject.is)

pub walk_on-returns-in_ok-add-in-String-clause-ok : goal.walk_on-returns-in_ok-add-in-String-clause-ok
walk_on-returns-in_ok-add-in-String-clause-ok t c =
    let all = token_of c.args.token ∷ c.args.reader.now in
    let s = c.in-String.text.now in
    (string s, read_string c.args.depth all c.args.reader.now s (grind arith), c.in_ok-add-in-String.ensures.gains (text s) refl, refl)

pub walk_on-returns-in_ok-add-in-Bool-clause-ok : goal.walk_on-returns-in_ok-add-in-Bool-clause-ok
walk_on-returns-in_ok-add-in-Bool-clause-ok t c =
    let all = token_of c.args.token ∷ c.args.reader.now in
    let b = c.in-Bool.truth in
    (boolean b, read_boolean c.args.depth all c.args.reader.now b (grind arith), c.in_ok-add-in-Bool.ensures.gains (truth b) refl, refl)

pub walk_on-returns-in-Null-clause-ok : goal.walk_on-returns-in-Null-clause-ok
walk_on-returns-in-Null-clause-ok t c =
    let all = token_of c.args.token ∷ c.args.reader.now in
    (null, read_null c.args.depth all c.args.reader.now (grind arith), gains_nothing c.args.stops.now.paths.paths.items (active_at c.args.stops.now.table.stops.items c.args.stop) (reach null) c.args.slots.now.items (λ path. refl), refl)

pub walk_on-returns-in_ok-add-in-Some-clause-ok : goal.walk_on-returns-in_ok-add-in-Some-clause-ok
walk_on-returns-in_ok-add-in-Some-clause-ok t c =
    let all = token_of c.args.token ∷ c.args.reader.now in
    let s = c.in-Number.text.now in
    let is : all ≡ Token.number s ∷ c.args.reader.now = grind arith in
    let n = some_before num_of (number_of s) c.in-Some.number c.in-Some.ensures in
    let same : scalar_of c.in-Some.number ≡ of_number n.0 = ap scalar_of n.2 ∙ number_scalar n.0 in
    (number n.0, read_number c.args.depth all c.args.reader.now s n.0 is n.1, c.in_ok-add-in-Some.ensures.gains (of_number n.0) (ap one same), refl)

pub walk_on-returns-in-None-clause-err : goal.walk_on-returns-in-None-clause-err
walk_on-returns-in-None-clause-err t c refused =
    let all = token_of c.args.token ∷ c.args.reader.now in
    let s = c.in-Number.text.now in
    let is : all ≡ Token.number s ∷ c.args.reader.now = grind arith in
    no_number c.args.depth all c.args.reader.now s is (none_before_map num_of (number_of s) c.in-None.ensures)

pub walk_on-returns-in-EndObject-clause-err : goal.walk_on-returns-in-EndObject-clause-err
walk_on-returns-in-EndObject-clause-err t c refused =
    let all = token_of c.args.token ∷ c.args.reader.now in
    let none : value c.args.depth all ≡ None = rw (value_is c.args.depth all) (grind arith) in
    ap (converted of_json) none

pub walk_on-returns-in_err-walk_items-in-BeginArray-clause-err : goal.walk_on-returns-in_err-walk_items-in-BeginArray-clause-err
walk_on-returns-in_err-walk_items-in-BeginArray-clause-err t c refused =
    let all = token_of c.args.token ∷ c.args.reader.now in
    opened_array c.args.depth all c.args.reader.now (omega arith) (ap (λ k. token_of k ∷ c.args.reader.now) c.in-BeginArray.is) ∙ ap (parse_map array) (c.walk_items.ensures.err (grind arith))

pub walk_on-returns-in_err-walk_members-in-BeginObject-clause-err : goal.walk_on-returns-in_err-walk_members-in-BeginObject-clause-err
walk_on-returns-in_err-walk_members-in-BeginObject-clause-err t c refused =
    let all = token_of c.args.token ∷ c.args.reader.now in
    opened_object c.args.depth all c.args.reader.now (omega arith) (ap (λ k. token_of k ∷ c.args.reader.now) c.in-BeginObject.is) ∙ ap (parse_map object) (c.walk_members.ensures.err (grind arith))

pub walk_on-returns-in_ok-walk_items-in-BeginArray-clause-ok : goal.walk_on-returns-in_ok-walk_items-in-BeginArray-clause-ok
walk_on-returns-in_ok-walk_items-in-BeginArray-clause-ok t c =
    let all = token_of c.args.token ∷ c.args.reader.now in
    let opened = opened_array c.args.depth all c.args.reader.now (omega arith) (ap (λ k. token_of k ∷ c.args.reader.now) c.in-BeginArray.is) in
    let found = c.in_ok-walk_items-in-BeginArray.ensures.ok in
    (array found.0, opened ∙ ap (parse_map array) found.1, found.2, refl)

pub walk_on-returns-in_ok-walk_members-in-BeginObject-clause-ok : goal.walk_on-returns-in_ok-walk_members-in-BeginObject-clause-ok
walk_on-returns-in_ok-walk_members-in-BeginObject-clause-ok t c =
    let all = token_of c.args.token ∷ c.args.reader.now in
    let opened = opened_object c.args.depth all c.args.reader.now (omega arith) (ap (λ k. token_of k ∷ c.args.reader.now) c.in-BeginObject.is) in
    let found = c.in_ok-walk_members-in-BeginObject.ensures.ok in
    (object found.0, opened ∙ ap (parse_map object) found.1, found.2, refl)

pub walk_items-items-init : goal.walk_items-items-init
walk_items-items-init t c =
    let all = converted of_items (items (value c.args.depth) (length c.args.reader.now) c.args.reader.now) in
    (length c.args.reader.now, [], omega arith, none_before all, omega arith, refl, gains_nothing c.args.stops.now.paths.paths.items (active_at c.args.stops.now.table.stops.items c.args.stop) (reach_items no_items) c.args.slots.now.items (λ path. refl))

pub walk_items-returns-in_err-_object-clause-err : goal.walk_items-returns-in_err-_object-clause-err
walk_items-returns-in_err-_object-clause-err t c refused =
    let p = value c.args.depth in
    let l = c.items in
    let going : (after_end_array l.reader ≡ None) × (c.take_end_array.new.self ≡ l.reader) = grind arith in
    l.invariant.3 ∙ ap (parse_map (items_before l.invariant.1)) (item_refused p l.invariant.0 l.reader going.0 (rw (← going.1) (c.walk_value.ensures.err (grind arith))))

pub walk_items-items-preserved : goal.walk_items-items-preserved
walk_items-items-preserved t c =
    let p = value c.args.depth in
    let l = c.items in
    let n = l.invariant.0 in
    let before = l.invariant.1 in
    let going : (after_end_array l.reader ≡ None) × (c.take_end_array.new.self ≡ l.reader) = grind arith in
    let done = c.in_ok-_object.ensures in
    let d = done.ok.0 in
    let r = c.walk_value.new.reader in
    let less : length r < length l.reader = rw (← going.1) done.shorter in
    let turn = item_read p n l.reader r d (omega (arith, l.invariant.2)) going.0 (rw (← going.1) done.ok.1) in (
      n - 1,
      before ++ d ∷ [],
      omega (arith, l.invariant.2),
      l.invariant.3 ∙ ap (parse_map (items_before before)) turn ∙ one_more_item before d _,
      omega (arith, l.invariant.4),
      done.length ∙ l.invariant.5,
      gains_then c.args.stops.now.paths.paths.items (active_at c.args.stops.now.table.stops.items c.args.stop) (reach_items (items_before before no_items)) (reach d) (reach_items (items_before (before ++ d ∷ []) no_items))
          c.args.slots.now.items l.slots.items c.walk_value.new.slots.items l.invariant.6 done.ok.2 (reach_pushed before d),
    )

pub walk_items-returns-clause-ok : goal.walk_items-returns-clause-ok
walk_items-returns-clause-ok t c =
    let p = value c.args.depth in
    let l = c.items in
    let r = c.take_end_array.new.self in
    (items_before l.invariant.1 no_items, l.invariant.3 ∙ ap (parse_map (items_before l.invariant.1)) (items_over p l.invariant.0 l.reader r l.invariant.2 (grind arith)), l.invariant.6)

pub walk_members-members-init : goal.walk_members-members-init
walk_members-members-init t c = (
  length c.args.reader.now,
  no_members,
  omega arith,
  refl,
  omega arith,
  refl,
  gains_nothing c.args.stops.now.paths.paths.items (active_at c.args.stops.now.table.stops.items c.args.stop) (reach_members no_members) c.args.slots.now.items (λ path. refl),
  λ i e. untouched_none (rest_at c.args.stops.now.paths.paths.items (active_at c.args.stops.now.table.stops.items c.args.stop) i),
)

pub walk_members-returns-in_err-name-clause-err : goal.walk_members-returns-in_err-name-clause-err
walk_members-returns-in_err-name-clause-err t c refused =
    let l = c.members in
    l.invariant.3 ∙ key_refused (value c.args.depth) l.invariant.1 l.invariant.0 l.reader c.in_err-name.ensures.value

pub walk_members-returns-in_err-pass_member-clause-err : goal.walk_members-returns-in_err-pass_member-clause-err
walk_members-returns-in_err-pass_member-clause-err t c refused =
    let l = c.members in
    let k = c.in-Some.name.now in
    let s = c.next_key.new.self in
    let named : read_key l.reader ≡ Some (Some k, s) = grind arith in
    l.invariant.3 ∙ member_refused (value c.args.depth) l.invariant.1 l.invariant.0 k l.reader s named c.in_err-pass_member.ensures.err

pub walk_members-returns-in_err-walk_member-clause-err : goal.walk_members-returns-in_err-walk_member-clause-err
walk_members-returns-in_err-walk_member-clause-err t c refused =
    let l = c.members in
    let k = c.in-Some.name.now in
    let s = c.next_key.new.self in
    let named : read_key l.reader ≡ Some (Some k, s) = grind arith in
    l.invariant.3 ∙ member_refused (value c.args.depth) l.invariant.1 l.invariant.0 k l.reader s named (c.walk_member.ensures.err (grind arith))

pub walk_members-members-preserved : goal.walk_members-members-preserved
walk_members-members-preserved t c =
    let p = value c.args.depth in
    let paths = c.args.stops.now.paths.paths.items in
    let l = c.members in
    let n = l.invariant.0 in
    let old = l.invariant.1 in
    let k = c.in-Some.name.now in
    let s = c.next_key.new.self in
    let named : read_key l.reader ≡ Some (Some k, s) = grind arith in
    let done = c.in_ok-pass_member.ensures in
    let d = done.ok.0 in
    let r = c.pass_member.new.reader in
    let less = read_key-shorter l.reader (Some k) s named in
    let lesser = done.shorter in
    let a = active_at c.args.stops.now.table.stops.items c.args.stop in
    let under : (i : ℕ) → rest_at paths nowhere i ≡ option_and_then (behind k) (rest_at paths a i) = λ i. nowhere_rest paths i ∙ sym (c.in_default-under.ensures.none refl i) in
    let none : (i : ℕ) → in_set nowhere.places i ≡ false = λ i. in_none i in (
      n - 1,
      put k d old,
      omega (arith, l.invariant.2),
      l.invariant.3 ∙ member_read p old n k l.reader s r d (omega (arith, l.invariant.2)) named done.ok.1,
      omega (arith, l.invariant.4),
      l.invariant.5,
      member_gains paths a nowhere k d old l.taken c.args.slots.now.items l.slots.items l.slots.items under l.invariant.7
          l.invariant.6 (gains_empty paths nowhere (reach d) l.slots.items none) (λ i e. absurd (cc (none i, e))),
      λ i e. still_free paths a nowhere k d old l.taken c.args.slots.now.items l.slots.items l.slots.items under l.invariant.7 i (rest_at paths a i) refl e (none i),
    )

pub walk_members-members-preserved-in-Continue-branch-3 : goal.walk_members-members-preserved-in-Continue-branch-3
walk_members-members-preserved-in-Continue-branch-3 t c =
    let p = value c.args.depth in
    let paths = c.args.stops.now.paths.paths.items in
    let l = c.members in
    let n = l.invariant.0 in
    let old = l.invariant.1 in
    let k = c.in-Some.name.now in
    let s = c.next_key.new.self in
    let named : read_key l.reader ≡ Some (Some k, s) = grind arith in
    let done = c.in_ok-walk_member.ensures in
    let d = done.ok.0 in
    let r = c.walk_member.new.reader in
    let new = c.walk_member.new.slots.items in
    let less = read_key-shorter l.reader (Some k) s named in
    let lesser = done.shorter in
    let a = active_at c.args.stops.now.table.stops.items c.args.stop in
    let inner = active_at c.args.stops.now.table.stops.items c.in-Some-under.inner in
    let places : c.places-places.result ≡ inner.places = c.places-places.ensures in
    let under = c.in-Some-under.ensures.some in (
      n - 1,
      put k d old,
      omega (arith, l.invariant.2),
      l.invariant.3 ∙ member_read p old n k l.reader s r d (omega (arith, l.invariant.2)) named done.ok.1,
      omega (arith, l.invariant.4),
      done.length ∙ l.invariant.5,
      member_gains paths a inner k d old l.taken c.args.slots.now.items l.slots.items new under l.invariant.7
          l.invariant.6 done.ok.2 (λ i e. c.if-meets.ensures refl i (ap (λ p. in_set p i) places ∙ e)),
      free_after paths a inner k d old l.taken c.args.slots.now.items l.slots.items new under l.invariant.7 c.with-taken.result (λ i. c.with-taken.ensures i ∙ ap (λ p. in_set l.taken i || in_set p i) places),
    )

pub walk_members-returns-clause-ok : goal.walk_members-returns-clause-ok
walk_members-returns-clause-ok t c =
    let l = c.members in
    (l.invariant.1, l.invariant.3 ∙ members_over (value c.args.depth) l.invariant.1 l.invariant.0 l.reader c.next_key.new.self l.invariant.2 (grind arith), l.invariant.6)
