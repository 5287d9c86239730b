-- One turn of a loop that reads a list with something between its items, for any reader of an item.
use Rattle.std.proofs.Common.{◌≡◌, ℕ, suc, Bool, true, false, List, [], ◌∷◌, ◌++◌, length, Ok, Err, refl, sym, ap, ◌∙◌, append_assoc}
use Rattle.eql_parser.specs.declared.parser.stop.Stop.{Stop}
use Rattle.eql_parser.specs.declared.parser.stop.Stop.TheVariants as stop
use Rattle.eql_parser.specs.Kinds.{Kind}
use Rattle.eql_parser.specs.Answering.{Stops, onto}
use Rattle.eql_parser.specs.Reading.{Syntax, Res, then_do, res_map, separated, more_of}

-- none of these tokens comes first
abbrev pub Ends : (Kind → Bool) → List Kind → Type 0
Ends is [] = Unit {0}
Ends is (k ∷ ts) = is k ≡ false

pub stops_then : {A B : Type 0} (e : Stop) (r : Res A) (f : A → List Kind → Res B) → Stops e r → Stops e (then_do r f)
stops_then stop.Memory r f h = tt
stops_then (stop.Syntax n) r f h = rw h refl
stops_then (stop.LeftOut w n) r f h = rw h refl
stops_then (stop.TooDeep n) r f h = rw h refl
stops_then (stop.TooOpen n) r f h = rw h refl

pub stops_map : {A B : Type 0} (e : Stop) (r : Res A) (f : A → B) → Stops e r → Stops e (res_map f r)
stops_map stop.Memory r f h = tt
stops_map (stop.Syntax n) r f h = rw h refl
stops_map (stop.LeftOut w n) r f h = rw h refl
stops_map (stop.TooDeep n) r f h = rw h refl
stops_map (stop.TooOpen n) r f h = rw h refl

pub stops_as : {A : Type 0} (e : Stop) (r s : Res A) → r ≡ s → Stops e r → Stops e s
stops_as stop.Memory r s h k = tt
stops_as (stop.Syntax n) r s h k = sym h ∙ k
stops_as (stop.LeftOut w n) r s h k = sym h ∙ k
stops_as (stop.TooDeep n) r s h k = sym h ∙ k
stops_as (stop.TooOpen n) r s h k = sym h ∙ k

pub onto_nothing : {A : Type 0} (r : Res (List A)) → onto [] r ≡ r
onto_nothing (Ok x) = refl
onto_nothing (Err e) = refl

onto_more : {A : Type 0} (xs : List A) (x : A) (r : Res (List A)) → onto (xs ++ x ∷ []) r ≡ onto xs (res_map (λ ys. x ∷ ys) r)
onto_more xs x (Ok y) = ap (λ l. Ok (l, y.1)) (append_assoc xs (x ∷ []) y.0)
onto_more xs x (Err e) = refl

module _ {A : Type 0} (is : Kind → Bool) (read : List Kind → Res A) where
  one_turn : (n m : ℕ) (ts : List Kind) → n ≡ suc m → separated is read n ts ≡ then_do (read ts) (more_of is (separated is read m))
  unfolding separated
  one_turn n m ts e = rw e refl

  last_item : (again : List Kind → Res (List A)) (x : A) (us : List Kind) → Ends is us → more_of is again x us ≡ Ok (x ∷ [], us)
  last_item again x [] h = refl
  last_item again x (k ∷ us) h = rw h refl

  next_item : (again : List Kind → Res (List A)) (x : A) (k : Kind) (us : List Kind) → is k ≡ true → more_of is again x (k ∷ us) ≡ res_map (λ ys. x ∷ ys) (again us)
  next_item again x k us h = rw h refl

  pub begins : (xs : List A) (n m : ℕ) (ts us : List Kind) → xs ≡ [] → n ≡ m → ts ≡ us → onto xs (separated is read n ts) ≡ separated is read m us
  begins xs n m ts us e f g = rw (e, f, g) (onto_nothing (separated is read m us))

  pub goes_on : (n m : ℕ) (xs ys : List A) (x : A) (k : Kind) (ts behind us : List Kind) (whole : Res (List A)) → n ≡ suc m
      → onto xs (separated is read n ts) ≡ whole → read ts ≡ Ok (x, behind) → behind ≡ k ∷ us → is k ≡ true → ys ≡ xs ++ x ∷ [] → onto ys (separated is read m us) ≡ whole
  goes_on n m xs ys x k ts behind us whole i h r b t f =
      let one : separated is read n ts ≡ res_map (λ zs. x ∷ zs) (separated is read m us) =
      one_turn n m ts i ∙ ap (λ q. then_do q (more_of is (separated is read m))) r ∙ ap (more_of is (separated is read m) x) b ∙ next_item (separated is read m) x k us t in
      ap (λ l. onto l (separated is read m us)) f ∙ onto_more xs x (separated is read m us) ∙ ap (onto xs) (sym one) ∙ h

  pub ends_there : (n m : ℕ) (xs ys : List A) (x : A) (ts behind : List Kind) (whole : Res (List A)) → n ≡ suc m
      → onto xs (separated is read n ts) ≡ whole → read ts ≡ Ok (x, behind) → Ends is behind → ys ≡ xs ++ x ∷ [] → whole ≡ Ok (ys, behind)
  ends_there n m xs ys x ts behind whole i h r b f =
      let one : separated is read n ts ≡ Ok (x ∷ [], behind) =
      one_turn n m ts i ∙ ap (λ q. then_do q (more_of is (separated is read m))) r ∙ last_item (separated is read m) x behind b in
      sym h ∙ ap (onto xs) one ∙ ap (λ l. Ok (l, behind)) (sym f)

  pub stops_there : (n m : ℕ) (xs : List A) (ts : List Kind) (whole : Res (List A)) (e : Stop) → n ≡ suc m
      → onto xs (separated is read n ts) ≡ whole → Stops e (read ts) → Stops e whole
  stops_there n m xs ts whole e i h r =
      stops_as e (onto xs (separated is read n ts)) whole h
      (stops_map e (separated is read n ts) (λ ys. xs ++ ys) (stops_as e (then_do (read ts) (more_of is (separated is read m))) (separated is read n ts) (sym (one_turn n m ts i))
      (stops_then e (read ts) (more_of is (separated is read m)) r)))

  pub runs_out : (n p : ℕ) (xs : List A) (ts : List Kind) (whole : Res (List A)) → n ≡ 0 → onto xs (separated is read n ts) ≡ whole → length ts ≡ p → whole ≡ Err (Syntax p)
  unfolding separated
  runs_out n p xs ts whole i h l = sym h ∙ ap (λ k. onto xs (separated is read k ts)) i ∙ ap (λ k. Err (Syntax k)) l
