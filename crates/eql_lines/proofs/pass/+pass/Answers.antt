use Rattle.std.proofs.Common.{◌≡◌, ◌-◌, ◌<◌, [], ◌∷◌, ◌++◌, length, Some, None, refl, sym, ap, ◌∙◌, arith}
use Rattle.json.specs.Token.{Token}
use Rattle.json.specs.Json.{parse_map, after_end_array, read_key, value}
use Rattle.json.specs.Reads.{token_of}
use Rattle.json.proofs.Grammar.{value_is, read_key-shorter}
use Rattle.serde_json.specs.Data.{null, boolean, number, string, array, object, put, no_items, no_members}
use Rattle.serde_json.specs.Read.{of_json, converted, number_of}
use Rattle.eql_lines.proofs.Reading.{item_read, item_refused, items_over, member_read, member_refused, key_refused, members_over, items_before, one_more_item}
use Rattle.eql_lines.proofs.Opening.{map_ok, map_err, on_err, opened_array, opened_object, no_array, no_object, read_string, read_boolean, read_null, read_number, no_number, read_nothing}
use Rattle.eql_lines.proofs.Wholes.{some_is, none_is}
use Rattle.eql_lines.proofs.pass.+pass.Goals as goal

pub pass_value-returns-in_err-token-clause-err : goal.pass_value-returns-in_err-token-clause-err
pass_value-returns-in_err-token-clause-err t c = on_err c.from_residual.result (read_nothing c.args.depth c.args.reader.now (grind arith))

pub pass_on-returns-then-depth-eq0-clause-err : goal.pass_on-returns-then-depth-eq0-clause-err
pass_on-returns-then-depth-eq0-clause-err t c =
    let all = token_of c.args.token ∷ c.args.reader.now in
    no_array c.args.depth all c.args.reader.now (omega arith) (ap (λ k. token_of k ∷ c.args.reader.now) c.in-BeginArray.is)

pub pass_on-returns-then-depth-eq0-2-clause-err : goal.pass_on-returns-then-depth-eq0-2-clause-err
pass_on-returns-then-depth-eq0-2-clause-err t c =
    let all = token_of c.args.token ∷ c.args.reader.now in
    no_object c.args.depth all c.args.reader.now (omega arith) (ap (λ k. token_of k ∷ c.args.reader.now) c.in-BeginObject.is)

pub pass_on-returns-then-fits_float-clause-ok : goal.pass_on-returns-then-fits_float-clause-ok
pass_on-returns-then-fits_float-clause-ok t c =
    let all = token_of c.args.token ∷ c.args.reader.now in
    let s = c.in-Number.text.now in
    let is : all ≡ Token.number s ∷ c.args.reader.now = grind arith in
    let n = some_is (number_of s) (sym c.fits_float.ensures ∙ c.if-fits_float.true) in
    (number n.0, read_number c.args.depth all c.args.reader.now s n.0 is n.1)

pub pass_on-returns-else-fits_float-clause-err : goal.pass_on-returns-else-fits_float-clause-err
pass_on-returns-else-fits_float-clause-err t c =
    let all = token_of c.args.token ∷ c.args.reader.now in
    let s = c.in-Number.text.now in
    let is : all ≡ Token.number s ∷ c.args.reader.now = grind arith in
    no_number c.args.depth all c.args.reader.now s is (none_is (number_of s) (sym c.fits_float.ensures ∙ c.if-fits_float.false))

pub pass_on-returns-in-EndObject-clause-err : goal.pass_on-returns-in-EndObject-clause-err
pass_on-returns-in-EndObject-clause-err t c =
    let all = token_of c.args.token ∷ c.args.reader.now in
    let none : value c.args.depth all ≡ None = rw (value_is c.args.depth all) (grind arith) in
    ap (converted of_json) none

pub pass_on-returns-else-depth-eq0-clause-ok : goal.pass_on-returns-else-depth-eq0-clause-ok
pass_on-returns-else-depth-eq0-clause-ok t c =
    let all = token_of c.args.token ∷ c.args.reader.now in
    let opened = opened_array c.args.depth all c.args.reader.now (omega arith) (ap (λ k. token_of k ∷ c.args.reader.now) c.in-BeginArray.is) in
    map_ok c.pass_items.result (λ h. (array h.0, opened ∙ ap (parse_map array) h.1)) c.pass_items.ensures.ok

pub pass_on-returns-else-depth-eq0-clause-err : goal.pass_on-returns-else-depth-eq0-clause-err
pass_on-returns-else-depth-eq0-clause-err t c =
    let all = token_of c.args.token ∷ c.args.reader.now in
    let opened = opened_array c.args.depth all c.args.reader.now (omega arith) (ap (λ k. token_of k ∷ c.args.reader.now) c.in-BeginArray.is) in
    map_err c.pass_items.result (λ h. opened ∙ ap (parse_map array) h) c.pass_items.ensures.err

pub pass_on-returns-else-depth-eq0-2-clause-ok : goal.pass_on-returns-else-depth-eq0-2-clause-ok
pass_on-returns-else-depth-eq0-2-clause-ok t c =
    let all = token_of c.args.token ∷ c.args.reader.now in
    let opened = opened_object c.args.depth all c.args.reader.now (omega arith) (ap (λ k. token_of k ∷ c.args.reader.now) c.in-BeginObject.is) in
    map_ok c.pass_members.result (λ h. (object h.0, opened ∙ ap (parse_map object) h.1)) c.pass_members.ensures.ok

pub pass_on-returns-else-depth-eq0-2-clause-err : goal.pass_on-returns-else-depth-eq0-2-clause-err
pass_on-returns-else-depth-eq0-2-clause-err t c =
    let all = token_of c.args.token ∷ c.args.reader.now in
    let opened = opened_object c.args.depth all c.args.reader.now (omega arith) (ap (λ k. token_of k ∷ c.args.reader.now) c.in-BeginObject.is) in
    map_err c.pass_members.result (λ h. opened ∙ ap (parse_map object) h) c.pass_members.ensures.err

pub pass_items-items-preserved : goal.pass_items-items-preserved
pass_items-items-preserved t c =
    let p = value c.args.depth in
    let l = c.items in
    let n = l.invariant.0 in
    let going : (after_end_array l.reader ≡ None) × (c.take_end_array.new.self ≡ l.reader) = grind arith in
    let done = c.in_ok-pass_value.ensures in
    let r = c.pass_value.new.reader in
    let less : length r < length l.reader = rw (← going.1) done.shorter in
    let turn = item_read p n l.reader r done.ok.0 (omega (arith, l.invariant.2)) going.0 (rw (← going.1) done.ok.1) in (
      n - 1,
      l.invariant.1 ++ done.ok.0 ∷ [],
      omega (arith, l.invariant.2),
      l.invariant.3 ∙ ap (parse_map (items_before l.invariant.1)) turn ∙ one_more_item l.invariant.1 done.ok.0 _,
      omega (arith, l.invariant.4),
    )

pub pass_items-returns-in_err-pass_value-clause-err : goal.pass_items-returns-in_err-pass_value-clause-err
pass_items-returns-in_err-pass_value-clause-err t c =
    let p = value c.args.depth in
    let l = c.items in
    let going : (after_end_array l.reader ≡ None) × (c.take_end_array.new.self ≡ l.reader) = grind arith in
    on_err c.from_residual.result (l.invariant.3 ∙ ap (parse_map (items_before l.invariant.1)) (item_refused p l.invariant.0 l.reader going.0 (rw (← going.1) c.in_err-pass_value.ensures.err)))

pub pass_items-returns-clause-ok : goal.pass_items-returns-clause-ok
pass_items-returns-clause-ok t c =
    let p = value c.args.depth in
    let l = c.items in
    let r = c.take_end_array.new.self in
    (items_before l.invariant.1 no_items, l.invariant.3 ∙ ap (parse_map (items_before l.invariant.1)) (items_over p l.invariant.0 l.reader r l.invariant.2 (grind arith)))

pub pass_members-members-init : goal.pass_members-members-init
pass_members-members-init t c = (length c.args.reader.now, no_members, omega arith, refl, omega arith)

pub pass_members-returns-in_err-next_key-clause-err : goal.pass_members-returns-in_err-next_key-clause-err
pass_members-returns-in_err-next_key-clause-err t c =
    let l = c.members in
    on_err c.from_residual.result (l.invariant.3 ∙ key_refused (value c.args.depth) l.invariant.1 l.invariant.0 l.reader c.in_err-next_key.ensures.value)

pub pass_members-members-preserved : goal.pass_members-members-preserved
pass_members-members-preserved t c =
    let p = value c.args.depth in
    let l = c.members in
    let n = l.invariant.0 in
    let k = c.in-Some.field-0.now in
    let s = c.next_key.new.self in
    let named : read_key l.reader ≡ Some (Some k, s) = grind arith in
    let done = c.in_ok-pass_value.ensures in
    let r = c.pass_value.new.reader in
    let less = read_key-shorter l.reader (Some k) s named in
    let lesser = done.shorter in (
      n - 1,
      put k done.ok.0 l.invariant.1,
      omega (arith, l.invariant.2),
      l.invariant.3 ∙ member_read p l.invariant.1 n k l.reader s r done.ok.0 (omega (arith, l.invariant.2)) named done.ok.1,
      omega (arith, l.invariant.4),
    )

pub pass_members-returns-in_err-pass_value-clause-err : goal.pass_members-returns-in_err-pass_value-clause-err
pass_members-returns-in_err-pass_value-clause-err t c =
    let l = c.members in
    let k = c.in-Some.field-0.now in
    let s = c.next_key.new.self in
    let named : read_key l.reader ≡ Some (Some k, s) = grind arith in
    on_err c.from_residual-in_err-pass_value.result (l.invariant.3 ∙ member_refused (value c.args.depth) l.invariant.1 l.invariant.0 k l.reader s named c.in_err-pass_value.ensures.err)

pub pass_members-returns-clause-ok : goal.pass_members-returns-clause-ok
pass_members-returns-clause-ok t c =
    let l = c.members in
    (l.invariant.1, l.invariant.3 ∙ members_over (value c.args.depth) l.invariant.1 l.invariant.0 l.reader c.next_key.new.self l.invariant.2 (grind arith))

pub pass_on-returns-in-String-clause-ok : goal.pass_on-returns-in-String-clause-ok
pass_on-returns-in-String-clause-ok t c =
    let all = token_of c.args.token ∷ c.args.reader.now in
    let s = c.in-String.field-0.now in
    (string s, read_string c.args.depth all c.args.reader.now s (grind arith))

pub pass_on-returns-in-Bool-clause-ok : goal.pass_on-returns-in-Bool-clause-ok
pass_on-returns-in-Bool-clause-ok t c =
    let all = token_of c.args.token ∷ c.args.reader.now in
    (boolean c.in-Bool.field-0, read_boolean c.args.depth all c.args.reader.now c.in-Bool.field-0 (grind arith))

pub pass_on-returns-in-Null-clause-ok : goal.pass_on-returns-in-Null-clause-ok
pass_on-returns-in-Null-clause-ok t c =
    let all = token_of c.args.token ∷ c.args.reader.now in
    (null, read_null c.args.depth all c.args.reader.now (grind arith))
