-- What a reader has read where it stops begins something that it reads: what goes for every reader.
use Rattle.std.proofs.Common.{◌≡◌, ℕ, zero, suc, ◌-◌, nat_lt, Bool, true, false, if◌then◌else◌, List, [], ◌∷◌, ◌++◌, length, Option, Some, None, Ok, Err, refl, sym, ap, subst, ◌∙◌, append_assoc}
use Rattle.eql_query.specs.declared.expr.MathOp.{MathOp}
use Rattle.eql_query.specs.Tree.{Tree, Trees, more}
use Rattle.eql_query.specs.Tree as t
use Rattle.eql_query.specs.View.{trees_of}
use Rattle.eql_parser.specs.Kinds.{Kind, open_, close_}
use Rattle.eql_parser.specs.Limits.{depth}
use Rattle.eql_parser.specs.Refusing.{IsLeftOut}
use Rattle.eql_parser.specs.Reading.{Fail, Syntax, LeftOut, TooDeep, TooOpen, Res, then_do, res_map, closing, more_of, separated, at_level, above, chain_on, chain_from, chain, joined_operands}
use Rattle.eql_parser.proofs.Rows.{Row, last_of, next_of}

-- these tokens spell a form, whatever follows
abbrev pub Free : {A : Type 0} → (List Kind → A → List Kind → Type 0) → List Kind → A → Type 0
Free Is front x = (rest : List Kind) → Is (front ++ rest) x rest

-- some form begins with these tokens: others complete it
abbrev pub Starts : {A : Type 0} → (List Kind → A → List Kind → Type 0) → List Kind → Type 0
Starts {A = A} Is front = (x : A) × (others : List Kind) × ((rest : List Kind) → Is (front ++ (others ++ rest)) x rest)

-- the place of a refusal
abbrev pub fail_place : Fail → ℕ
fail_place (Syntax n) = n
fail_place (LeftOut w n) = n
fail_place (TooDeep n) = n
fail_place (TooOpen n) = n

abbrev pub first_of : List Kind → List Kind
first_of [] = []
first_of (k ∷ ks) = k ∷ []

-- What could follow where a reader stops: at LeftOut another form than the one that begins there, at a limit the token that stands there.
abbrev pub Follows : (before : List Kind) → Fail → (front behind follows : List Kind) → Type 0
Follows before (Syntax n) front behind follows = Unit {0}
Follows before (LeftOut w n) front behind follows = IsLeftOut (before ++ front) behind w follows
Follows before (TooDeep n) front behind follows = follows ≡ first_of behind
Follows before (TooOpen n) front behind follows = follows ≡ first_of behind

-- a reader stops behind tokens that begin a form
pub record Stop {A : Type 0} (Is : List Kind → A → List Kind → Type 0) (ts : List Kind) (e : Fail) : Type 0 where
  pub front : List Kind
  pub behind : List Kind
  pub follows : List Kind
  pub cut : ts ≡ front ++ behind
  pub count : length behind ≡ fail_place e
  pub starts : Starts Is (front ++ follows)
  pub why : (before : List Kind) → Follows before e front behind follows

-- What an answer says: the front of the tokens is a form of one kind, or begins one of another kind.
abbrev pub TellsOf : {A : Type 0} → (Is Begun : List Kind → A → List Kind → Type 0) → List Kind → Res A → Type 0
TellsOf Is Begun ts (Ok p) = (front : List Kind) × (ts ≡ front ++ p.1) × Free Is front p.0
TellsOf Is Begun ts (Err e) = Stop Begun ts e

abbrev pub Tells : {A : Type 0} → (List Kind → A → List Kind → Type 0) → List Kind → Res A → Type 0
Tells Is = TellsOf Is Is

follows_behind : (before m : List Kind) (e : Fail) (front behind follows : List Kind) → Follows (before ++ m) e front behind follows → Follows before e (m ++ front) behind follows
follows_behind before m (Syntax n) front behind follows h = tt
follows_behind before m (LeftOut w n) front behind follows h = subst (λ b. IsLeftOut b behind w follows) (append_assoc before m front) h
follows_behind before m (TooDeep n) front behind follows h = h
follows_behind before m (TooOpen n) front behind follows h = h

-- a form behind some tokens, in another form
module _ {A B : Type 0} (P : List Kind → A → List Kind → Type 0) (Q : List Kind → B → List Kind → Type 0) (m : List Kind) (f : A → B)
    (go : (us : List Kind) (x : A) (rest : List Kind) → P us x rest → Q (m ++ us) (f x) rest) where
  pub starts_behind : (front : List Kind) → Starts P front → Starts Q (m ++ front)
  starts_behind front s = (f s.0, s.1, λ rest. subst (λ l. Q l (f s.0) rest) (sym (append_assoc m front (s.1 ++ rest))) (go (front ++ (s.1 ++ rest)) s.0 rest (s.2 rest)))

  pub stop_behind : (ts : List Kind) (e : Fail) → Stop P ts e → Stop Q (m ++ ts) e
  stop_behind ts e s = record {
    front = m ++ s.front;
    behind = s.behind;
    follows = s.follows;
    cut = ap (λ l. m ++ l) s.cut ∙ sym (append_assoc m s.front s.behind);
    count = s.count;
    starts = subst (Starts Q) (sym (append_assoc m s.front s.follows)) (starts_behind (s.front ++ s.follows) s.starts);
    why = λ before. follows_behind before m e s.front s.behind s.follows (s.why (before ++ m));
  }

  pub free_behind : (front : List Kind) (x : A) → Free P front x → Free Q (m ++ front) (f x)
  free_behind front x h rest = subst (λ l. Q l (f x) rest) (sym (append_assoc m front rest)) (go (front ++ rest) x rest (h rest))

pub tells_map : {A B : Type 0} (P : List Kind → A → List Kind → Type 0) (Q : List Kind → B → List Kind → Type 0) (ts : List Kind) (f : A → B) (r : Res A)
    → ((us : List Kind) (x : A) (rest : List Kind) → P us x rest → Q us (f x) rest) → Tells P ts r → Tells Q ts (res_map f r)
tells_map P Q ts f (Ok p) go h = (h.0, h.1, λ rest. go (h.0 ++ rest) p.0 rest (h.2 rest))
tells_map P Q ts f (Err e) go h = stop_behind P Q [] f go ts e h

-- a run behind some tokens
pub tells_behind : {A : Type 0} (P Q S T : List Kind → A → List Kind → Type 0) (m : List Kind) (ts : List Kind) (r : Res A)
    → ((us : List Kind) (x : A) (rest : List Kind) → P us x rest → Q (m ++ us) x rest) → ((us : List Kind) (x : A) (rest : List Kind) → S us x rest → T (m ++ us) x rest)
    → TellsOf P S ts r → TellsOf Q T (m ++ ts) r
tells_behind P Q S T m ts (Ok p) go begin h = (m ++ h.0, ap (λ l. m ++ l) h.1 ∙ sym (append_assoc m h.0 p.1), free_behind P Q m (λ x. x) go h.0 p.0 h.2)
tells_behind P Q S T m ts (Err e) go begin h = stop_behind S T m (λ x. x) begin ts e h

pub tells_also : {A : Type 0} (P Q : List Kind → A → List Kind → Type 0) (ts : List Kind) (r : Res A)
    → ((us : List Kind) (x : A) (rest : List Kind) → P us x rest → Q us x rest) → Tells P ts r → Tells Q ts r
tells_also P Q ts r go h = tells_behind P Q P Q [] ts r go go h

-- a run behind one token
pub tells_token : {A : Type 0} (P Q : List Kind → A → List Kind → Type 0) (k : Kind) (ts : List Kind) (r : Res A)
    → ((us : List Kind) (x : A) (rest : List Kind) → P us x rest → Q (k ∷ us) x rest) → Tells P ts r → Tells Q (k ∷ ts) r
tells_token P Q k ts r go h = tells_behind P Q P Q (k ∷ []) ts r go go h

-- what stands behind a part x, up to the end of the whole
abbrev pub Onto : {A B : Type 0} → (List Kind → A → List Kind → Type 0) → (List Kind → B → List Kind → Type 0) → A → List Kind → B → List Kind → Type 0
Onto P Q x us y rest = (ts : List Kind) → P ts x us → Q ts y rest

-- what begins a part begins the whole, since the whole can be completed behind each part
pub starts_whole : {A B : Type 0} (P : List Kind → A → List Kind → Type 0) (Q : List Kind → B → List Kind → Type 0) → ((x : A) → Starts (Onto P Q x) []) → (front : List Kind)
    → Starts P front → Starts Q front
starts_whole P Q complete front s =
    let c = complete s.0 in
    (c.0, s.1 ++ c.1, λ rest. subst (λ l. Q (front ++ l) c.0 rest) (sym (append_assoc s.1 c.1 rest)) (c.2 rest (front ++ (s.1 ++ (c.1 ++ rest))) (s.2 (c.1 ++ rest))))

stop_whole : {A B : Type 0} (P : List Kind → A → List Kind → Type 0) (Q : List Kind → B → List Kind → Type 0) → ((x : A) → Starts (Onto P Q x) []) → (ts : List Kind) (e : Fail)
    → Stop P ts e → Stop Q ts e
stop_whole P Q complete ts e s =
    record { front = s.front; behind = s.behind; follows = s.follows; cut = s.cut; count = s.count; starts = starts_whole P Q complete (s.front ++ s.follows) s.starts; why = s.why }

pub tells_then_of : {A B : Type 0} (P : List Kind → A → List Kind → Type 0) (Q S : List Kind → B → List Kind → Type 0) (ts : List Kind) (r : Res A) (f : A → List Kind → Res B)
    → ((x : A) → Starts (Onto P S x) []) → Tells P ts r → ((x : A) (us : List Kind) → TellsOf (Onto P Q x) (Onto P S x) us (f x us)) → TellsOf Q S ts (then_do r f)
tells_then_of P Q S ts (Ok p) f complete h k =
    subst (λ l. TellsOf Q S l (f p.0 p.1)) (sym h.1)
    (tells_behind (Onto P Q p.0) Q (Onto P S p.0) S h.0 p.1 (f p.0 p.1) (λ us y rest i. i (h.0 ++ us) (h.2 us)) (λ us y rest i. i (h.0 ++ us) (h.2 us)) (k p.0 p.1))
tells_then_of P Q S ts (Err e) f complete h k = stop_whole P S complete ts e h

pub tells_then : {A B : Type 0} (P : List Kind → A → List Kind → Type 0) (Q : List Kind → B → List Kind → Type 0) (ts : List Kind) (r : Res A) (f : A → List Kind → Res B)
    → ((x : A) → Starts (Onto P Q x) []) → Tells P ts r → ((x : A) (us : List Kind) → Tells (Onto P Q x) us (f x us)) → Tells Q ts (then_do r f)
tells_then P Q ts r f complete h k = tells_then_of P Q Q ts r f complete h k

-- nothing more is read
pub tells_here : {A : Type 0} (Q S : List Kind → A → List Kind → Type 0) (x : A) (ts : List Kind) → Free Q [] x → TellsOf Q S ts (Ok (x, ts))
tells_here Q S x ts h = ([], refl, h)

pub tells_one : {A : Type 0} (Q : List Kind → A → List Kind → Type 0) (k : Kind) (x : A) (ts : List Kind) → Free Q (k ∷ []) x → Tells Q (k ∷ ts) (Ok (x, ts))
tells_one Q k x ts h = (k ∷ [], refl, h)

-- stops behind some tokens
pub stop_syntax : {A : Type 0} (Q : List Kind → A → List Kind → Type 0) (m us : List Kind) → Starts Q (m ++ []) → Stop Q (m ++ us) (Syntax (length us))
stop_syntax Q m us s = record { front = m; behind = us; follows = []; cut = refl; count = refl; starts = s; why = λ before. tt }

pub stop_left_out : {A : Type 0} (Q : List Kind → A → List Kind → Type 0) (m us : List Kind) (w : List ℕ) (instead : List Kind) → Starts Q (m ++ instead)
    → ((before : List Kind) → IsLeftOut (before ++ m) us w instead) → Stop Q (m ++ us) (LeftOut w (length us))
stop_left_out Q m us w instead s h = record { front = m; behind = us; follows = instead; cut = refl; count = refl; starts = s; why = h }

pub stop_deep : {A : Type 0} (Q : List Kind → A → List Kind → Type 0) (k : Kind) (us : List Kind) → Starts Q (k ∷ []) → Stop Q (k ∷ us) (TooDeep (suc (length us)))
stop_deep Q k us s = record { front = []; behind = k ∷ us; follows = k ∷ []; cut = refl; count = refl; starts = s; why = λ before. refl }

pub stop_open : {A : Type 0} (Q : List Kind → A → List Kind → Type 0) (m us : List Kind) → Starts Q (m ++ open_ ∷ []) → Stop Q (m ++ open_ ∷ us) (TooOpen (suc (length us)))
stop_open Q m us s = record { front = m; behind = open_ ∷ us; follows = open_ ∷ []; cut = refl; count = refl; starts = s; why = λ before. refl }

pub tells_if : {A : Type 0} (Q S : List Kind → A → List Kind → Type 0) (ts : List Kind) (b : Bool) (r s : Res A) → (b ≡ true → TellsOf Q S ts r) → (b ≡ false → TellsOf Q S ts s)
    → TellsOf Q S ts (if b then r else s)
tells_if Q S ts true r s h k = h refl
tells_if Q S ts false r s h k = k refl

pub tells_at_level : {A : Type 0} (Q : List Kind → A → List Kind → Type 0) (k : Kind) (us : List Kind) (l : ℕ) (r : Res A) → Starts Q (k ∷ []) → Tells Q (k ∷ us) r
    → Tells Q (k ∷ us) (at_level l (suc (length us)) r)
tells_at_level Q k us zero r s h = stop_deep Q k us s
tells_at_level Q k us (suc l) r s h = h

pub tells_above : {A : Type 0} (Q : List Kind → A → List Kind → Type 0) (k : Kind) (us : List Kind) (l : ℕ) (a : Tree) (r : Res A) → Starts Q (k ∷ []) → Tells Q (k ∷ us) r
    → Tells Q (k ∷ us) (above l a (suc (length us)) r)
tells_above Q k us l a r s h = tells_if Q Q (k ∷ us) (nat_lt (depth a) l) r (Err (TooDeep (suc (length us)))) (λ e. h) (λ e. stop_deep Q k us s)

-- up to one closing parenthesis
pub tells_closing_of : {A : Type 0} (P Q S : List Kind → A → List Kind → Type 0) (ts : List Kind) (r : Res A) → ((us : List Kind) (x : A) (rest : List Kind) → P us x (close_ ∷ rest) → Q us x rest)
    → ((x : A) → Starts (Onto P S x) []) → Tells P ts r → TellsOf Q S ts (then_do r closing)
tells_closing_of {A = A} P Q S ts r closed complete h = tells_then_of P Q S ts r closing complete h behind
  where
    behind : (x : A) (us : List Kind) → TellsOf (Onto P Q x) (Onto P S x) us (closing x us)
    behind x (close_ ∷ us) = (close_ ∷ [], refl, λ rest ts i. closed ts x rest i)
    behind x us = stop_syntax (Onto P S x) [] us (complete x)

pub tells_closing : {A : Type 0} (P Q : List Kind → A → List Kind → Type 0) (ts : List Kind) (r : Res A) → ((us : List Kind) (x : A) (rest : List Kind) → P us x (close_ ∷ rest) → Q us x rest)
    → Tells P ts r → Tells Q ts (then_do r closing)
tells_closing P Q ts r closed h = tells_closing_of P Q Q ts r closed (λ x. (x, close_ ∷ [], λ rest us i. closed us x rest i)) h

-- several with something between
module _ {A : Type 0} (is_between : Kind → Bool) (Is : List Kind → A → List Kind → Type 0) (read : List Kind → Res A) (tells : (ts : List Kind) → Tells Is ts (read ts)) (one : Starts Is []) where
  row_starts : Starts (Row is_between Is) []
  row_starts = (one.0 ∷ [], one.1, λ rest. last_of (one.2 rest))

  tells_more : (again : List Kind → Res (List A)) → ((ts : List Kind) → Tells (Row is_between Is) ts (again ts)) → (x : A) (us : List Kind)
      → Tells (Onto Is (Row is_between Is) x) us (more_of is_between again x us)
  tells_more again h x [] = tells_here (Onto Is (Row is_between Is) x) (Onto Is (Row is_between Is) x) (x ∷ []) [] (λ rest ts i. last_of i)
  tells_more again h x (k ∷ us) =
      tells_if (Onto Is (Row is_between Is) x) (Onto Is (Row is_between Is) x) (k ∷ us) (is_between k) (res_map (λ xs. x ∷ xs) (again us)) (Ok (x ∷ [], k ∷ us))
      (λ b. tells_token (λ vs xs rest. (ts : List Kind) → Is ts x (k ∷ vs) → Row is_between Is ts xs rest) (Onto Is (Row is_between Is) x) k us (res_map (λ xs. x ∷ xs) (again us)) (λ vs xs rest i. i)
      (tells_map (Row is_between Is) (λ vs xs rest. (ts : List Kind) → Is ts x (k ∷ vs) → Row is_between Is ts xs rest) us (λ xs. x ∷ xs) (again us) (λ vs xs rest i ts j. next_of b j i) (h us)))
      (λ b. tells_here (Onto Is (Row is_between Is) x) (Onto Is (Row is_between Is) x) (x ∷ []) (k ∷ us) (λ rest ts i. last_of i))

  pub tells_separated : (n : ℕ) (ts : List Kind) → Tells (Row is_between Is) ts (separated is_between read n ts)
  unfolding separated
  tells_separated zero ts = stop_syntax (Row is_between Is) [] ts row_starts
  tells_separated (suc n) ts =
      tells_then Is (Row is_between Is) ts (read ts) (more_of is_between (separated is_between read n)) (λ x. (x ∷ [], [], λ rest us i. last_of i)) (tells ts)
      (tells_more (separated is_between read n) (tells_separated n))

-- operands from the left
module _ (operator : Kind → Option MathOp) (read : ℕ → List Kind → Res Tree) (One Whole : List Kind → Tree → List Kind → Type 0)
    (tells : (l : ℕ) (ts : List Kind) → Tells One ts (read l ts)) (one : Starts One [])
    (alone : (ts : List Kind) (a : Tree) (us : List Kind) → One ts a us → Whole ts a us)
    (next : (ts : List Kind) (a : Tree) (k : Kind) (o : MathOp) (us : List Kind) (b : Tree) (rest : List Kind) → operator k ≡ Some o → Whole ts a (k ∷ us) → One us b rest → Whole ts (t.math o a b) rest) where
  -- what stands behind an operand and an operator
  abbrev Operand : Tree → Kind → List Kind → Tree → List Kind → Type 0
  Operand a k us c rest = (ts : List Kind) → Whole ts a (k ∷ us) → Whole ts c rest

  tells_chain_on : (l : ℕ) (again : Tree → List Kind → Res Tree) (a : Tree) (p : Option MathOp) (k : Kind) (us : List Kind) → operator k ≡ p
      → ((b : Tree) (vs : List Kind) → Tells (Onto Whole Whole b) vs (again b vs)) → Tells (Onto Whole Whole a) (k ∷ us) (chain_on read l again a p k us)
  tells_chain_on l again a None k us e h = tells_here (Onto Whole Whole a) (Onto Whole Whole a) a (k ∷ us) (λ rest ts i. i)
  tells_chain_on l again a (Some o) k us e h =
      tells_above (Onto Whole Whole a) k us l a (then_do (read (l - 1) us) (λ b vs. again (t.math o a b) vs)) (t.math o a one.0, one.1, λ rest ts i. next ts a k o (one.1 ++ rest) one.0 rest e i (one.2 rest))
      (tells_token (Operand a k) (Onto Whole Whole a) k us (then_do (read (l - 1) us) (λ b vs. again (t.math o a b) vs)) (λ vs c rest i. i)
      (tells_then One (Operand a k) us (read (l - 1) us) (λ b vs. again (t.math o a b) vs) (λ b. (t.math o a b, [], λ rest vs i ts j. next ts a k o vs b rest e j i)) (tells (l - 1) us)
      (λ b vs. tells_also (Onto Whole Whole (t.math o a b)) (Onto One (Operand a k) b) vs (again (t.math o a b) vs) (λ ws c rest i xs j ts w. i ts (next ts a k o xs b ws e w j)) (h (t.math o a b) vs))))

  tells_chain_from : (l n : ℕ) (a : Tree) (us : List Kind) → Tells (Onto Whole Whole a) us (chain_from operator read l n a us)
  unfolding chain_from
  tells_chain_from l zero a us = tells_here (Onto Whole Whole a) (Onto Whole Whole a) a us (λ rest ts i. i)
  tells_chain_from l (suc n) a [] = tells_here (Onto Whole Whole a) (Onto Whole Whole a) a [] (λ rest ts i. i)
  tells_chain_from l (suc n) a (k ∷ us) = tells_chain_on l (chain_from operator read l n) a (operator k) k us refl (tells_chain_from l n)

  pub tells_chain : (l : ℕ) (ts : List Kind) → Tells Whole ts (chain operator read l ts)
  tells_chain l ts =
      tells_then One Whole ts (read l ts) (λ a us. chain_from operator read l (length us) a us) (λ a. (a, [], λ rest us i. alone us a rest i)) (tells l ts)
      (λ a us. tells_also (Onto Whole Whole a) (Onto One Whole a) us (chain_from operator read l (length us) a us) (λ vs b rest i ws j. i ws (alone ws a vs j)) (tells_chain_from l (length us) a us))

-- one operand, or several joined in one node
module _ (is_between : Kind → Bool) (node : Trees → Tree) (read : ℕ → List Kind → Res Tree) (One Whole : List Kind → Tree → List Kind → Type 0)
    (tells : (l : ℕ) (ts : List Kind) → Tells One ts (read l ts)) (one : Starts One [])
    (alone : (ts : List Kind) (a : Tree) (us : List Kind) → One ts a us → Whole ts a us)
    (several : (ts : List Kind) (e : Tree) (k : Kind) (us : List Kind) (es : List Tree) (rest : List Kind) → is_between k ≡ true → One ts e (k ∷ us) → Row is_between One us es rest
    → Whole ts (node (more e (trees_of es))) rest) where
  tells_joined_at : (l : ℕ) (e : Tree) (k : Kind) (us : List Kind) → is_between k ≡ true
      → Tells (Onto One Whole e) (k ∷ us) (above l e (suc (length us)) (res_map (λ es. node (more e (trees_of es))) (separated is_between (read (l - 1)) (length us) us)))
  tells_joined_at l e k us b =
      tells_above (Onto One Whole e) k us l e (res_map (λ es. node (more e (trees_of es))) (separated is_between (read (l - 1)) (length us) us))
      (node (more e (more one.0 t.none)), one.1, λ rest ts i. several ts e k (one.1 ++ rest) (one.0 ∷ []) rest b i (last_of (one.2 rest)))
      (tells_token (λ vs c rest. (ts : List Kind) → One ts e (k ∷ vs) → Whole ts c rest) (Onto One Whole e) k us
      (res_map (λ es. node (more e (trees_of es))) (separated is_between (read (l - 1)) (length us) us)) (λ vs c rest i. i)
      (tells_map (Row is_between One) (λ vs c rest. (ts : List Kind) → One ts e (k ∷ vs) → Whole ts c rest) us (λ es. node (more e (trees_of es))) (separated is_between (read (l - 1)) (length us) us)
      (λ vs es rest i ts j. several ts e k vs es rest b j i) (tells_separated is_between One (read (l - 1)) (tells (l - 1)) one (length us) us)))

  tells_joined : (l : ℕ) (e : Tree) (us : List Kind) → Tells (Onto One Whole e) us (joined_operands is_between node read l e us)
  tells_joined l e [] = tells_here (Onto One Whole e) (Onto One Whole e) e [] (λ rest ts i. alone ts e rest i)
  tells_joined l e (k ∷ us) =
      tells_if (Onto One Whole e) (Onto One Whole e) (k ∷ us) (is_between k) (above l e (suc (length us)) (res_map (λ es. node (more e (trees_of es))) (separated is_between (read (l - 1)) (length us) us)))
      (Ok (e, k ∷ us)) (tells_joined_at l e k us) (λ b. tells_here (Onto One Whole e) (Onto One Whole e) e (k ∷ us) (λ rest ts i. alone ts e rest i))

  pub tells_level : (l : ℕ) (ts : List Kind) → Tells Whole ts (then_do (read l ts) (joined_operands is_between node read l))
  tells_level l ts = tells_then One Whole ts (read l ts) (joined_operands is_between node read l) (λ e. (e, [], λ rest us i. alone us e rest i)) (tells l ts) (tells_joined l)
