-- What the descent returns for the parts of a query, by what the code does there.
use Rattle.std.proofs.Common.{◌≡◌, ◌≢◌, ◌<◌, ◌==◌, ℕ, ℤ, pos, zero, suc, Bool, true, false, if◌then◌else◌, List, [], ◌∷◌, ◌++◌, length, Option, Some, None, Ok, Err, codes, refl, sym, ap, ◌∙◌, append_assoc, append-nil, arith}
use Rattle.std.specs.Str.{chars}
use Rattle.std.specs.Borrow.{Bor}
use Rattle.std.proofs.lemmas.Bool.Decides.{nat_tests}
use Rattle.eql_values.specs.declared.text.Text.{Text}
use Rattle.eql_lexer.specs.declared.token.Token.{Token}
use Rattle.eql_query.specs.declared.query.PipeText.{PipeText}
use Rattle.eql_query.specs.declared.query.Span.{Span}
use Rattle.eql_parser.specs.declared.parser.piece.Piece.{Piece}
use Rattle.eql_parser.specs.declared.parser.piece.Piece.TheVariants as p
use Rattle.eql_parser.specs.declared.parser.mark.Mark.TheVariants as mark
use Rattle.eql_parser.specs.declared.parser.stop.Stop.{Stop}
use Rattle.eql_parser.specs.declared.parser.stop.Stop.TheVariants as stop
use Rattle.eql_parser.specs.Kinds.{Kind, kinds, bang_, bar_, by_, join_, maxspan_, name, sample_, sequence_, until_, where_, with_, assign_, open_item_, close_item_}
use Rattle.eql_query.specs.Tree.{Tree}
use Rattle.eql_query.specs.QueryTree.{TermTree}
use Rattle.eql_parser.specs.QueryGrammar.{category, unit_of}
use Rattle.eql_parser.specs.Marks.{Lacks}
use Rattle.eql_parser.specs.Pieces.{piece_kind}
use Rattle.eql_parser.specs.Answering.{Stops, onto}
use Rattle.eql_parser.specs.QueryAnswering.{BeginsNoMissing, LacksRuns, StopsAtNoUnit, event_view}
use Rattle.eql_parser.specs.Reading.{Syntax, LeftOut, Res, then_do, res_map}
use Rattle.eql_parser.specs.QueryReading.{behind_expected, is_where, is_maxspan, is_runs, is_assign, is_open_item, is_close_item, number_at, keys, runs, term_of, term, term_tree_of, bracketed_term, item, items, items_more, is_fine_unit, unit_named, unit_at, span, pipe, pipes, until, body}
use Rattle.eql_parser.proofs.Defaults.{length_kinds, refused_here}
use Rattle.eql_parser.proofs.Separated.{Ends, stops_as, stops_then, stops_map, onto_nothing}

pub lacks_where : (ts : List Kind) → Lacks mark.Where ts → Ends is_where ts
lacks_where [] h = tt
lacks_where (where_ ∷ ts) h = absurd (h refl)
lacks_where (_ ∷ ts) h = refl

pub lacks_maxspan : (ts : List Kind) → Lacks mark.Maxspan ts → Ends is_maxspan ts
lacks_maxspan [] h = tt
lacks_maxspan (maxspan_ ∷ ts) h = absurd (h refl)
lacks_maxspan (_ ∷ ts) h = refl

pub lacks_assign : (ts : List Kind) → Lacks mark.Assign ts → Ends is_assign ts
lacks_assign [] h = tt
lacks_assign (assign_ ∷ ts) h = absurd (h refl)
lacks_assign (_ ∷ ts) h = refl

pub lacks_open_item : (ts : List Kind) → Lacks mark.OpenItem ts → Ends is_open_item ts
lacks_open_item [] h = tt
lacks_open_item (open_item_ ∷ ts) h = absurd (h refl)
lacks_open_item (_ ∷ ts) h = refl

pub lacks_close_item : (ts : List Kind) → Lacks mark.CloseItem ts → Ends is_close_item ts
lacks_close_item [] h = tt
lacks_close_item (close_item_ ∷ ts) h = absurd (h refl)
lacks_close_item (_ ∷ ts) h = refl

pub lacks_runs : (ts : List Kind) → LacksRuns ts → Ends is_runs ts
lacks_runs [] h = tt
lacks_runs (k ∷ ts) h = h

pub expected_not : {A : Type 0} (is : Kind → Bool) (go : List Kind → Res A) (ts : List Token) → Ends is (kinds ts) → behind_expected is go (kinds ts) ≡ Err (Syntax (length ts))
expected_not is go [] h = refl
expected_not is go (t ∷ ts) h = rw h (ap (λ n. Err (Syntax (suc n))) (length_kinds ts))

pub expected_is : {A : Type 0} (is : Kind → Bool) (go : List Kind → Res A) (ts : List Kind) (k : Kind) (us : List Kind) → ts ≡ k ∷ us → is k ≡ true → behind_expected is go ts ≡ go us
expected_is is go ts k us e h = ap (behind_expected is go) e ∙ ap (λ b. if b then go us else Err (Syntax (suc (length us)))) h

no_count_first : (x : Piece) (us : List Kind) → ((n : ℤ) → x ≡ p.Number n → ⊥) → number_at (piece_kind x ∷ us) ≡ Err (Syntax (suc (length us)))
no_count_first (p.Number n) us h = absurd (h n refl)
no_count_first _ us h = refl

pub no_count : (ts : List Token) (x : Piece) (us : List Kind) → kinds ts ≡ piece_kind x ∷ us → ((n : ℤ) → x ≡ p.Number n → ⊥) → number_at (kinds ts) ≡ Err (Syntax (length ts))
no_count ts x us e h = refused_here ts (piece_kind x) us e number_at (no_count_first x us h)

pub no_keys : (ts : List Kind) → Lacks mark.By ts → keys ts ≡ Ok ([], ts)
no_keys [] h = refl
no_keys (by_ ∷ ts) h = absurd (h refl)
no_keys (_ ∷ ts) h = refl

pub no_runs : (ts : List Kind) → Lacks mark.With ts → runs ts ≡ Ok (pos 1, ts)
no_runs [] h = refl
no_runs (with_ ∷ ts) h = absurd (h refl)
no_runs (_ ∷ ts) h = refl

pub no_span : (ts : List Kind) → Lacks mark.With ts → span ts ≡ Ok (None, ts)
no_span [] h = refl
no_span (with_ ∷ ts) h = absurd (h refl)
no_span (_ ∷ ts) h = refl

-- units
no_name_first : (n : ℤ) (x : Piece) (us : List Kind) → ((s : Bor Text) → x ≡ p.Name s → ⊥) → unit_at n (piece_kind x ∷ us) ≡ Err (Syntax (suc (length us)))
no_name_first n (p.Name s) us h = absurd (h s refl)
no_name_first n _ us h = refl

pub no_unit_name : (n : ℤ) (ts : List Token) (x : Piece) (us : List Kind) → kinds ts ≡ piece_kind x ∷ us → ((s : Bor Text) → x ≡ p.Name s → ⊥) → unit_at n (kinds ts) ≡ Err (Syntax (length ts))
no_unit_name n ts x us e h = refused_here ts (piece_kind x) us e (unit_at n) (no_name_first n x us h)

stops_unit : (e : Stop) (w : List ℕ) (left : ℕ) (r : Res (Option Span)) → StopsAtNoUnit e w left → r ≡ Err (if is_fine_unit w then LeftOut w left else Syntax left) → Stops e r
stops_unit stop.Memory w left r h q = tt
stops_unit (stop.Syntax n) w left r h q = q ∙ ap (λ b. Err (if b then LeftOut w left else Syntax left)) h.0 ∙ ap (λ k. Err (Syntax k)) (sym h.1)
stops_unit (stop.LeftOut v n) w left r h q =
    q ∙ ap (λ b. Err (if b then LeftOut w left else Syntax left)) h.0 ∙ ap (λ k. Err (LeftOut w k)) (sym h.2) ∙ ap (λ u. Err (LeftOut u n)) (sym h.1)
stops_unit (stop.TooDeep n) w left r h q = absurd h
stops_unit (stop.TooOpen n) w left r h q = absurd h

pub no_unit : (n : ℤ) (ts : List Token) (w : List ℕ) (us : List Kind) (e : Stop) → kinds ts ≡ name w ∷ us → None ≡ unit_of w → StopsAtNoUnit e w (length ts) → Stops e (unit_at n (kinds ts))
no_unit n ts w us e h u q =
    stops_unit e w (length ts) (unit_at n (kinds ts)) q
    (ap (unit_at n) h ∙ ap (λ x. unit_named n w x us) (sym u) ∙ ap (λ k. Err (if is_fine_unit w then LeftOut w k else Syntax k)) (sym (ap length h) ∙ length_kinds ts))

-- pipes
no_pipe_first : (x : Piece) (us : List Kind) → ((s : Bor Text) → x ≡ p.Name s → ⊥) → pipe (piece_kind x ∷ us) ≡ Err (Syntax (suc (length us)))
no_pipe_first (p.Name s) us h = absurd (h s refl)
no_pipe_first _ us h = refl

pub no_pipe : (ts : List Token) (x : Piece) (us : List Kind) → kinds ts ≡ piece_kind x ∷ us → ((s : Bor Text) → x ≡ p.Name s → ⊥) → pipe (kinds ts) ≡ Err (Syntax (length ts))
no_pipe ts x us e h = refused_here ts (piece_kind x) us e pipe (no_pipe_first x us h)

onto_put : {A : Type 0} (xs : List A) (x : A) (r : Res (List A)) → onto (xs ++ x ∷ []) r ≡ onto xs (res_map (λ ys. x ∷ ys) r)
onto_put xs x (Ok y) = ap (λ l. Ok (l, y.1)) (append_assoc xs (x ∷ []) y.0)
onto_put xs x (Err e) = refl

pipes_turn : (n m : ℕ) (ts us : List Kind) → n ≡ suc m → ts ≡ bar_ ∷ us → pipes n ts ≡ then_do (pipe us) (λ q vs. res_map (λ qs. q ∷ qs) (pipes m vs))
unfolding pipes
pipes_turn n m ts us i e = rw (i, e) refl

no_bar : (n : ℕ) (ts : List Kind) → Lacks mark.Bar ts → 0 < length ts → pipes n ts ≡ Err (Syntax (length ts))
unfolding pipes
no_bar n [] h l = absurd (omega arith)
no_bar zero (bar_ ∷ ts) h l = absurd (h refl)
no_bar zero (_ ∷ ts) h l = refl
no_bar (suc n) (bar_ ∷ ts) h l = absurd (h refl)
no_bar (suc n) (_ ∷ ts) h l = refl

pub pipes_begin : (xs : List PipeText) (n k : ℕ) (ts : List Kind) → xs ≡ [] → n ≡ k → onto xs (pipes n ts) ≡ pipes k ts
pipes_begin xs n k ts e f = ap (λ l. onto l (pipes n ts)) e ∙ onto_nothing (pipes n ts) ∙ ap (λ x. pipes x ts) f

pub pipes_refused : (n : ℕ) (xs : List PipeText) (ts : List Token) (whole : Res (List PipeText)) → onto xs (pipes n (kinds ts)) ≡ whole → Lacks mark.Bar (kinds ts) → 0 < length ts → whole ≡ Err (Syntax (length ts))
pipes_refused n xs ts whole h k l =
    sym h ∙ ap (onto xs) (no_bar n (kinds ts) k (omega (arith, length_kinds ts))) ∙ ap (λ q. Err (Syntax q)) (length_kinds ts)

end_of_pipes : (n : ℕ) → pipes n [] ≡ Ok ([], [])
unfolding pipes
end_of_pipes zero = refl
end_of_pipes (suc n) = refl

pub pipes_end : (n : ℕ) (xs : List PipeText) (ts : List Token) (whole : Res (List PipeText)) → onto xs (pipes n (kinds ts)) ≡ whole → length ts ≡ 0 → whole ≡ Ok (xs, kinds ts)
pipes_end n xs [] whole h e = sym h ∙ ap (onto xs) (end_of_pipes n) ∙ ap (λ l. Ok (l, [])) (append-nil xs)
pipes_end n xs (t ∷ ts) whole h e = absurd (omega arith)

pub pipes_stop : (n m : ℕ) (xs : List PipeText) (ts us : List Kind) (whole : Res (List PipeText)) (e : Stop) → n ≡ suc m → onto xs (pipes n ts) ≡ whole → ts ≡ bar_ ∷ us → Stops e (pipe us) → Stops e whole
pipes_stop n m xs ts us whole e i h b r =
    stops_as e (onto xs (pipes n ts)) whole h (stops_map e (pipes n ts) (λ ys. xs ++ ys)
    (stops_as e _ (pipes n ts) (sym (pipes_turn n m ts us i b)) (stops_then e (pipe us) (λ q vs. res_map (λ qs. q ∷ qs) (pipes m vs)) r)))

pub pipes_goes : (n m : ℕ) (xs ys : List PipeText) (x : PipeText) (ts us behind : List Kind) (whole : Res (List PipeText)) → n ≡ suc m → onto xs (pipes n ts) ≡ whole → ts ≡ bar_ ∷ us → pipe us ≡ Ok (x, behind)
    → ys ≡ xs ++ x ∷ [] → onto ys (pipes m behind) ≡ whole
pipes_goes n m xs ys x ts us behind whole i h b r f =
    ap (λ l. onto l (pipes m behind)) f ∙ onto_put xs x (pipes m behind)
    ∙ ap (onto xs) (sym (pipes_turn n m ts us i b ∙ ap (λ q. then_do q (λ z vs. res_map (λ zs. z ∷ zs) (pipes m vs))) r)) ∙ h

pub pipes_too_many : (n : ℕ) (xs : List PipeText) (ts : List Token) (whole : Res (List PipeText)) → n ≡ 0 → onto xs (pipes n (kinds ts)) ≡ whole → length ts ≢ 0 → whole ≡ Err (Syntax (length ts))
unfolding pipes
pipes_too_many n xs [] whole i h l = absurd (l refl)
pipes_too_many n xs (t ∷ ts) whole i h l = sym h ∙ ap (λ k. onto xs (pipes k (kinds (t ∷ ts)))) i ∙ ap (λ k. Err (Syntax (suc k))) (length_kinds ts)

pub bang_word : chars (33 ∷ []) ≡ codes "!"
unfolding chars lib.Utf8.encode
bang_word = refl

pub sample_word : chars (115 ∷ 97 ∷ 109 ∷ 112 ∷ 108 ∷ 101 ∷ []) ≡ codes "sample"
unfolding chars lib.Utf8.encode
sample_word = refl

pub join_word : chars (106 ∷ 111 ∷ 105 ∷ 110 ∷ []) ≡ codes "join"
unfolding chars lib.Utf8.encode
join_word = refl

-- terms and items, with any condition
module _ (condition : List Kind → Res Tree) where
  pub no_category : (ts : List Token) (k : Kind) (us : List Kind) → kinds ts ≡ k ∷ us → None ≡ category k → term condition (kinds ts) ≡ Err (Syntax (length ts))
  no_category ts k us e h = refused_here ts k us e (term condition) (ap (λ c. term_of condition c us) (sym h))

  pub some_category : (ts : List Kind) (k : Kind) (us : List Kind) (c : Option (List ℕ)) → ts ≡ k ∷ us → Some c ≡ category k → term_of condition (Some c) us ≡ term condition ts
  some_category ts k us c e h = ap (λ o. term_of condition o us) h ∙ sym (ap (term condition) e)

  pub missing_item : (ts : List Token) (us : List Kind) → kinds ts ≡ bang_ ∷ open_item_ ∷ us → item condition (kinds ts) ≡ Err (LeftOut (codes "!") (length ts))
  missing_item ts us e = ap (item condition) e ∙ ap (λ n. Err (LeftOut (codes "!") n)) (sym (ap length e) ∙ length_kinds ts)

  pub plain_item : (ts : List Kind) → BeginsNoMissing ts → item condition ts ≡ then_do (bracketed_term condition ts) (λ x us. res_map (term_tree_of x.0 x.1) (runs us))
  plain_item [] h = refl
  plain_item (bang_ ∷ []) h = refl
  plain_item (bang_ ∷ open_item_ ∷ ts) h = absurd h
  plain_item (bang_ ∷ _ ∷ ts) h = refl
  plain_item (_ ∷ ts) h = refl

  pub no_until : (ts : List Kind) → Lacks mark.Until ts → until condition ts ≡ Ok (None, ts)
  no_until [] h = refl
  no_until (until_ ∷ ts) h = absurd (h refl)
  no_until (_ ∷ ts) h = refl

  pub one_event : (ts : List Kind) → Lacks mark.Sample ts → Lacks mark.Join ts → Lacks mark.Sequence ts → body condition ts ≡ res_map event_view (term condition ts)
  one_event [] h j s = refl
  one_event (sample_ ∷ ts) h j s = absurd (h refl)
  one_event (join_ ∷ ts) h j s = absurd (j refl)
  one_event (sequence_ ∷ ts) h j s = absurd (s refl)
  one_event (_ ∷ ts) h j s = refl

  pub items_begin : (xs : List TermTree) (n k : ℕ) (ts : List Kind) → xs ≡ [] → n ≡ k → onto xs (items condition n ts) ≡ items condition k ts
  items_begin xs n k ts e f = ap (λ l. onto l (items condition n ts)) e ∙ onto_nothing (items condition n ts) ∙ ap (λ x. items condition x ts) f

  items_turn : (n m : ℕ) (ts : List Kind) → n ≡ suc m → items condition n ts ≡ then_do (item condition ts) (items_more (items condition m))
  unfolding items
  items_turn n m ts i = rw i refl

  last_item : (again : List Kind → Res (List TermTree)) (x : TermTree) (us : List Kind) → BeginsNoMissing us → Lacks mark.OpenItem us → items_more again x us ≡ Ok (x ∷ [], us)
  last_item again x [] h o = refl
  last_item again x (open_item_ ∷ us) h o = absurd (o refl)
  last_item again x (bang_ ∷ []) h o = refl
  last_item again x (bang_ ∷ open_item_ ∷ us) h o = absurd h
  last_item again x (bang_ ∷ _ ∷ us) h o = refl
  last_item again x (_ ∷ us) h o = refl

  pub items_stop : (n m : ℕ) (xs : List TermTree) (ts : List Kind) (whole : Res (List TermTree)) (e : Stop) → n ≡ suc m → onto xs (items condition n ts) ≡ whole → Stops e (item condition ts) → Stops e whole
  items_stop n m xs ts whole e i h r =
      stops_as e (onto xs (items condition n ts)) whole h (stops_map e (items condition n ts) (λ ys. xs ++ ys)
      (stops_as e _ (items condition n ts) (sym (items_turn n m ts i)) (stops_then e (item condition ts) (items_more (items condition m)) r)))

  one_read : (n m : ℕ) (x : TermTree) (ts behind : List Kind) → n ≡ suc m → item condition ts ≡ Ok (x, behind) → items condition n ts ≡ items_more (items condition m) x behind
  one_read n m x ts behind i r = items_turn n m ts i ∙ ap (λ q. then_do q (items_more (items condition m))) r

  pub items_missing : (n m : ℕ) (xs : List TermTree) (x : TermTree) (ts : List Kind) (behind : List Token) (us : List Kind) (whole : Res (List TermTree)) → n ≡ suc m → onto xs (items condition n ts) ≡ whole
      → item condition ts ≡ Ok (x, kinds behind) → kinds behind ≡ bang_ ∷ open_item_ ∷ us → whole ≡ Err (LeftOut (codes "!") (length behind))
  items_missing n m xs x ts behind us whole i h r e =
      sym h ∙ ap (onto xs) (one_read n m x ts (kinds behind) i r ∙ ap (items_more (items condition m) x) e) ∙ ap (λ k. Err (LeftOut (codes "!") k)) (sym (ap length e) ∙ length_kinds behind)

  pub items_end : (n m : ℕ) (xs ys : List TermTree) (x : TermTree) (ts behind : List Kind) (whole : Res (List TermTree)) → n ≡ suc m → onto xs (items condition n ts) ≡ whole → item condition ts ≡ Ok (x, behind)
      → BeginsNoMissing behind → Lacks mark.OpenItem behind → ys ≡ xs ++ x ∷ [] → whole ≡ Ok (ys, behind)
  items_end n m xs ys x ts behind whole i h r q o f =
      sym h ∙ ap (onto xs) (one_read n m x ts behind i r ∙ last_item (items condition m) x behind q o) ∙ ap (λ l. Ok (l, behind)) (sym f)

  pub items_goes : (n m : ℕ) (xs ys : List TermTree) (x : TermTree) (ts behind us : List Kind) (whole : Res (List TermTree)) → n ≡ suc m → onto xs (items condition n ts) ≡ whole → item condition ts ≡ Ok (x, behind)
      → behind ≡ open_item_ ∷ us → ys ≡ xs ++ x ∷ [] → onto ys (items condition m behind) ≡ whole
  items_goes n m xs ys x ts behind us whole i h r o f =
      ap (λ l. onto l (items condition m behind)) f ∙ onto_put xs x (items condition m behind) ∙ ap (λ b. onto xs (res_map (λ zs. x ∷ zs) (items condition m b))) o
      ∙ ap (onto xs) (sym (one_read n m x ts behind i r ∙ ap (items_more (items condition m) x) o)) ∙ h

  pub items_none : (n q : ℕ) (xs : List TermTree) (ts : List Kind) (whole : Res (List TermTree)) → n ≡ 0 → onto xs (items condition n ts) ≡ whole → length ts ≡ q → whole ≡ Err (Syntax q)
  unfolding items
  items_none n q xs ts whole i h l = sym h ∙ ap (λ k. onto xs (items condition k ts)) i ∙ ap (λ k. Err (Syntax k)) l

  pub sample_left : (ts : List Token) (us : List Kind) → kinds ts ≡ sample_ ∷ us → body condition (kinds ts) ≡ Err (LeftOut (codes "sample") (length ts))
  sample_left ts us e = ap (body condition) e ∙ ap (λ k. Err (LeftOut (codes "sample") k)) (sym (ap length e) ∙ length_kinds ts)

  pub join_left : (ts : List Token) (us : List Kind) → kinds ts ≡ join_ ∷ us → body condition (kinds ts) ≡ Err (LeftOut (codes "join") (length ts))
  join_left ts us e = ap (body condition) e ∙ ap (λ k. Err (LeftOut (codes "join") k)) (sym (ap length e) ∙ length_kinds ts)

pub none_left : (n : ℕ) (b : Bool) → b ≡ (n == 0) → b ≡ true → n ≡ 0
none_left n b h k = grind (arith, nat_tests)

pub some_left : (n : ℕ) (b : Bool) → b ≡ (n == 0) → b ≡ false → n ≢ 0
some_left n b h k e = absurd (let f : ⊥ = grind (arith, nat_tests) in f)
