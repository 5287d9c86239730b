-- What is found of wanted lines once the bytes before an offset were passed over.
use Rattle.std.proofs.Common.{◌≡◌, ◌≢◌, ◌⊎◌, inl, inr, ℕ, ◌+◌, ◌<◌, ◌≤◌, Bool, true, false, cond, List, [], ◌∷◌, ◌++◌, length, take, drop, Option, Some, None, Result, Ok, Err, refl, sym, ap, ◌∙◌, subst, arith, length-append, length-drop, append_assoc}
use Rattle.std.specs.Prelude.{IfSome, IfOk, IfErr, All}
use Rattle.std.proofs.Math.Seq.{take-add}
use Rattle.std.proofs.lemmas.List.{append-nil, take-append-drop}
use Rattle.std.proofs.lemmas.Option.{none-some}
use Rattle.eql_digest.specs.declared.digest.Digest.{Digest}
use Rattle.eql_digest.specs.Digests.{with_bytes, start, IsDigestOf}
use Rattle.eql_lane.specs.Noting.{NotesOf, Locates, IsMissing, IsWholeLine, is_cut}
use Rattle.eql_lane.specs.Passing.{PassesOver, ReadsOver, Traces, Agrees, IsJudged, IsOther, Misses, Grows, IsCause}
use Rattle.eql_lane.specs.declared.pass.Found.{Found}
use Rattle.eql_lane.specs.declared.pass.Trace.{Trace}
use Rattle.eql_lane.specs.declared.make.LaneRefused.{LaneRefused}
use Rattle.eql_lane.specs.declared.make.LaneRefused.TheVariants as refused

-- ---- bytes read in pieces
pub read_start : (left : Option (List ℕ)) (x : Trace) → ReadsOver left 0 x x
read_start left x = record {
  bytes = [];
  count = refl;
  told = none_taken left;
  noted = λ front n. subst (λ (l : List ℕ). NotesOf l x.notes) (sym (append-nil front)) n;
  digest = λ front d. subst (IsDigestOf x.digest) (sym (append-nil front)) d;
  wanted = refl;
  passed = omega arith;
}
  where
    none_taken : (left : Option (List ℕ)) → IfSome left (λ text. [] ≡ take 0 text)
    none_taken None = tt
    none_taken (Some []) = refl
    none_taken (Some (b ∷ text)) = refl

told_join : (left mid : Option (List ℕ)) (a b : ℕ) (p q : List ℕ) → IfSome left (λ t. (a ≤ length t) × (mid ≡ Some (drop a t))) → IfSome left (λ t. p ≡ take a t) → IfSome mid (λ t. q ≡ take b t)
    → IfSome left (λ t. p ++ q ≡ take (a + b) t)
told_join None mid a b p q rest h k = tt
told_join (Some t) mid a b p q rest h k =
    let P : Option (List ℕ) → Type 0 = λ r. IfSome r (λ u. q ≡ take b u) in
    let m : q ≡ take b (drop a t) = subst P rest.1 k in
    (λ i. h i ++ m i) ∙ sym (take-add a b t)

module _ {S : Type 0} (left lent_as : S → Option (List ℕ)) where
  pub read_join : (a b : ℕ) (s t : S) (x y z : Trace) → PassesOver left lent_as a s t → ReadsOver (left s) a x y → ReadsOver (left t) b y z → ReadsOver (left s) (a + b) x z
  read_join a b s t x y z over p q = record {
    bytes = p.bytes ++ q.bytes;
    count = let c = length-append p.bytes q.bytes in let d = p.count in let e = q.count in omega (arith, c, d, e);
    told = told_join (left s) (left t) a b p.bytes q.bytes over.rest p.told q.told;
    noted = λ front n. subst (λ (l : List ℕ). NotesOf l z.notes) (append_assoc front p.bytes q.bytes) (q.noted (front ++ p.bytes) (p.noted front n));
    digest = λ front d. subst (IsDigestOf z.digest) (append_assoc front p.bytes q.bytes) (q.digest (front ++ p.bytes) (p.digest front d));
    wanted = q.wanted ∙ p.wanted;
    passed = let c = p.passed in let d = q.passed in omega (arith, c, d);
  }

  pub read_none : (a b : ℕ) (s t : S) (x y z : Trace) → b ≡ 0 → PassesOver left lent_as a s t → ReadsOver (left s) a x y → ReadsOver (left t) b y z → ReadsOver (left s) a x z
  read_none a b s t x y z e over p q = subst (λ (n : ℕ). ReadsOver (left s) n x z) (same a b e) (read_join a b s t x y z over p q)
    where
      same : (a b : ℕ) → b ≡ 0 → a + b ≡ a
      same a b e = omega (arith, e)

-- ---- the text behind the offset
abbrev rest_of : Option (List ℕ) → ℕ → (ended : Bool) → List ℕ
rest_of None offset ended = cond ended [] (0 ∷ [])
rest_of (Some t) offset ended = drop offset t

abbrev Behind : (text mid : Option (List ℕ)) → ℕ → Type 0
Behind text mid offset = IfSome text (λ t. (offset ≤ length t) × (mid ≡ Some (drop offset t)))

at_end : (text mid : Option (List ℕ)) (offset : ℕ) (ended : Bool) → Behind text mid offset → (ended ≡ true → IfSome mid (λ l. l ≡ [])) → ended ≡ true → rest_of text offset ended ≡ []
at_end None mid offset ended behind gone e = ap (λ (b : Bool). cond b [] (0 ∷ [])) e
at_end (Some t) mid offset ended behind gone e = let P : Option (List ℕ) → Type 0 = λ r. IfSome r (λ l. l ≡ []) in subst P behind.1 (gone e)

told_rest : (text : Option (List ℕ)) (offset : ℕ) (ended : Bool) (bytes : List ℕ) → IfSome text (λ t. bytes ≡ take offset t) → IfSome text (λ t. t ≡ bytes ++ rest_of text offset ended)
told_rest None offset ended bytes told = tt
told_rest (Some t) offset ended bytes told = sym (take-append-drop offset t) ∙ ap (λ (l : List ℕ). l ++ drop offset t) (sym told)

pub traces_of : (text mid : Option (List ℕ)) (offset : ℕ) (ended : Bool) (x y : Trace) (wanted : List ℕ) (found : Found) → x.notes.wanted ≡ wanted → NotesOf [] x.notes → IsDigestOf x.digest [] → found.digest ≡ y.digest
    → ReadsOver text offset x y → Behind text mid offset
    → (ended ≡ true → IfSome mid (λ l. l ≡ [])) → ((front rest : List ℕ) → NotesOf front y.notes → (ended ≡ true → rest ≡ []) → Locates front rest y.notes.wanted found.places) → Traces text offset wanted found
traces_of text mid offset ended x y wanted found e noted none digest read behind gone located = record {
  finds = record {
    first = read.bytes;
    rest = rest_of text offset ended;
    count = read.count;
    told = told_rest text offset ended read.bytes read.told;
    located = subst (λ (l : List ℕ). Locates read.bytes (rest_of text offset ended) l found.places) (read.wanted ∙ e) (located read.bytes (rest_of text offset ended) (read.noted [] noted) (at_end text mid offset ended behind gone));
  };
  digest = digest ∙ read.digest [] none;
}

-- ---- the digest that is known
-- it is that of the bytes that were passed over
pub agrees_told : (known : Option Digest) (digest : Digest) (offset : ℕ) (text : Option (List ℕ)) (bytes : List ℕ) → IsDigestOf digest bytes → IfSome known (λ own. own ≡ digest) → IfSome text (λ t. bytes ≡ take offset t)
    → IfSome text (Agrees known offset)
agrees_told known digest offset None bytes is same told = tt
agrees_told None digest offset (Some t) bytes is same told = tt
agrees_told (Some own) digest offset (Some t) bytes is same told = same ∙ is ∙ ap (with_bytes start) told

-- or another one
known_other : (known : Option Digest) (digest : Digest) → ¬ IfSome known (λ own. own ≡ digest) → known ≢ None
known_other None digest other = absurd (other tt)
known_other (Some own) digest other = λ none. none-some own (sym none)

others_told : (known : Option Digest) (digest : Digest) (offset : ℕ) (text mid : Option (List ℕ)) (bytes : List ℕ) → IsDigestOf digest bytes → ¬ IfSome known (λ own. own ≡ digest) → Behind text mid offset → IfSome text (λ t. bytes ≡ take offset t)
    → IfSome text (IsOther offset known)
others_told known digest offset None mid bytes is other behind told = tt
others_told None digest offset (Some t) mid bytes is other behind told = absurd (other tt)
others_told (Some own) digest offset (Some t) mid bytes is other behind told = record {
  there = behind.0;
  differs = λ agrees. other (agrees ∙ ap (with_bytes start) (sym told) ∙ sym is);
}

pub other_told : (known : Option Digest) (digest : Digest) (offset : ℕ) (text mid : Option (List ℕ)) (bytes : List ℕ) → IsDigestOf digest bytes → ¬ IfSome known (λ own. own ≡ digest) → Behind text mid offset → IfSome text (λ t. bytes ≡ take offset t)
    → (known ≢ None) × IfSome text (IsOther offset known)
other_told known digest offset text mid bytes is other behind told =
    (known_other known digest other, others_told known digest offset text mid bytes is other behind told)

-- ---- what is refused
not_at_end : (text mid : Option (List ℕ)) (offset : ℕ) (ended closed cut : Bool) → Behind text mid offset → (ended ≡ false → IfSome mid (λ l. l ≢ []) ⊎ ((closed ≡ false) × (cut ≡ false)))
    → ended ≡ false → rest_of text offset ended ≡ [] → cut ≡ false
not_at_end None mid offset ended closed cut behind further no_end none = let a = sym none ∙ ap (λ (b : Bool). cond b [] (0 ∷ [])) no_end in cc
not_at_end (Some t) mid offset ended closed cut behind further no_end none = elim (further no_end) [
  | inl some ↦ let P : Option (List ℕ) → Type 0 = λ r. IfSome r (λ l. l ≢ []) in absurd (subst P behind.1 some none)
  | inr both ↦ both.1
]

some_left : (t : List ℕ) (offset : ℕ) → drop offset t ≢ [] → offset < length t
some_left t offset some = by_length (drop offset t) refl some
  where
    by_length : (l : List ℕ) → drop offset t ≡ l → l ≢ [] → offset < length t
    by_length [] e some = absurd (some refl)
    by_length (b ∷ l) e some = let a = ap length e in let d = length-drop offset t in omega (arith, a, d)

missing_told : (text mid : Option (List ℕ)) (offset : ℕ) (ended : Bool) (known : Option Digest) (wanted bytes : List ℕ) (line : ℕ) → Behind text mid offset → IfSome text (λ t. bytes ≡ take offset t) → IfSome text (Agrees known offset)
    → IsMissing bytes (rest_of text offset ended) wanted line → IfSome text (Misses offset known wanted line)
missing_told None mid offset ended known wanted bytes line behind told agrees missing = tt
missing_told (Some t) mid offset ended known wanted bytes line behind told agrees missing = record { there = behind.0; agrees = agrees; missing = subst (λ (l : List ℕ). IsMissing l (drop offset t) wanted line) told missing }

grown_told : (text mid : Option (List ℕ)) (offset : ℕ) (ended closed cut : Bool) (known : Option Digest) (wanted bytes : List ℕ) → closed ≡ true → Behind text mid offset → IfSome text (λ t. bytes ≡ take offset t) → IfSome text (Agrees known offset)
    → IfSome mid (λ l. l ≢ []) ⊎ ((closed ≡ false) × (cut ≡ false)) → All (IsWholeLine bytes (rest_of text offset ended)) wanted → IfSome text (Grows offset known wanted)
grown_told None mid offset ended closed cut known wanted bytes is behind told agrees further whole = tt
grown_told (Some t) mid offset ended closed cut known wanted bytes is behind told agrees further whole = record {
  agrees = agrees;
  further = elim further [
    | inl some ↦ let P : Option (List ℕ) → Type 0 = λ r. IfSome r (λ l. l ≢ []) in some_left t offset (subst P behind.1 some)
    | inr both ↦ let a = sym is ∙ both.0 in cc
  ];
  whole = subst (λ (l : List ℕ). All (IsWholeLine l (drop offset t)) wanted) told whole;
}

cause_by : (r : LaneRefused) (text mid : Option (List ℕ)) (before now offset : ℕ) (ended closed cut : Bool) (known : Option Digest) (wanted bytes : List ℕ) → Behind text mid offset → IfSome text (λ t. bytes ≡ take offset t) → IfSome text (Agrees known offset)
    → (ended ≡ false → IfSome mid (λ l. l ≢ []) ⊎ ((closed ≡ false) × (cut ≡ false))) → IsJudged bytes (rest_of text offset ended) wanted closed ended r → IsCause text before now offset closed known wanted r
cause_by (refused.Short at had) text mid before now offset ended closed cut known wanted bytes behind told agrees further judged = absurd judged
cause_by refused.Differs text mid before now offset ended closed cut known wanted bytes behind told agrees further judged = absurd judged
cause_by (refused.NoLine line) text mid before now offset ended closed cut known wanted bytes behind told agrees further judged =
    (judged.is_wanted, missing_told text mid offset ended known wanted bytes line behind told agrees judged)
cause_by refused.Grown text mid before now offset ended closed cut known wanted bytes behind told agrees further judged =
    (judged.0, grown_told text mid offset ended closed cut known wanted bytes judged.0 behind told agrees (further judged.1) judged.2)
cause_by refused.Failed text mid before now offset ended closed cut known wanted bytes behind told agrees further judged = absurd judged
cause_by refused.Memory text mid before now offset ended closed cut known wanted bytes behind told agrees further judged = absurd judged

pub cause_of : (r : LaneRefused) (text mid : Option (List ℕ)) (before now offset : ℕ) (ended closed : Bool) (known : Option Digest) (x y : Trace) (wanted : List ℕ) → x.notes.wanted ≡ wanted → NotesOf [] x.notes → IsDigestOf x.digest []
    → IfSome known (λ own. own ≡ y.digest) → ReadsOver text offset x y → Behind text mid offset
    → (ended ≡ true → IfSome mid (λ l. l ≡ [])) → (ended ≡ false → IfSome mid (λ l. l ≢ []) ⊎ ((closed ≡ false) × (is_cut y.notes ≡ false)))
    → ((front rest : List ℕ) → NotesOf front y.notes → (ended ≡ true → rest ≡ []) → (ended ≡ false → rest ≡ [] → is_cut y.notes ≡ false) → IsJudged front rest y.notes.wanted closed ended r)
    → IsCause text before now offset closed known wanted r
cause_of r text mid before now offset ended closed known x y wanted e noted none same read behind gone further judged =
    cause_by r text mid before now offset ended closed (is_cut y.notes) known wanted read.bytes behind read.told
    (agrees_told known y.digest offset text read.bytes (read.digest [] none) same read.told) further
    (subst (λ (l : List ℕ). IsJudged read.bytes (rest_of text offset ended) l closed ended r) (read.wanted ∙ e)
    (judged read.bytes (rest_of text offset ended) (read.noted [] noted) (at_end text mid offset ended behind gone) (not_at_end text mid offset ended closed (is_cut y.notes) behind further)))

-- what is judged of a place isn't a fault
pub not_failed : (r : LaneRefused) (closed ended : Bool) (wanted front rest : List ℕ) → IsJudged front rest wanted closed ended r → r ≢ refused.Failed
not_failed (refused.Short at had) closed ended wanted front rest judged = absurd judged
not_failed refused.Differs closed ended wanted front rest judged = absurd judged
not_failed (refused.NoLine line) closed ended wanted front rest judged = λ e. cc
not_failed refused.Grown closed ended wanted front rest judged = λ e. cc
not_failed refused.Failed closed ended wanted front rest judged = absurd judged
not_failed refused.Memory closed ended wanted front rest judged = absurd judged

-- ---- by what was judged
pub map_ok : {A B : Type 0} (r : Result A B) (P Q : A → Type 0) → ((x : A) → P x → Q x) → IfOk r P → IfOk r Q
map_ok (Ok x) P Q f h = f x h
map_ok (Err e) P Q f h = tt

pub both_ok : {A B : Type 0} (r : Result A B) (P Q : A → Type 0) → IfOk r P → IfOk r Q → IfOk r (λ x. P x × Q x)
both_ok (Ok x) P Q p q = (p, q)
both_ok (Err e) P Q p q = tt

pub map_err : {A B : Type 0} (r : Result A B) (P Q : B → Type 0) → ((e : B) → P e → Q e) → IfErr r P → IfErr r Q
map_err (Ok x) P Q f h = tt
map_err (Err e) P Q f h = f e h

pub by_end : (P : Type 0) (ended : Bool) → (ended ≡ true → P) → (ended ≡ false → P) → P
by_end P true yes_end no_end = yes_end refl
by_end P false yes_end no_end = no_end refl

pub to_offset : (P : ℕ → Type 0) (had offset : ℕ) → had ≤ offset → offset ≤ had → P had → P offset
to_offset P had offset le ge h = subst P (let e : had ≡ offset = omega (arith, le, ge) in e) h

pub not_closed : (closed ended : Bool) → (closed ≡ true → ended ≡ true) → ended ≡ false → closed ≡ false
not_closed true ended h e = sym (h refl) ∙ e
not_closed false ended h e = refl
