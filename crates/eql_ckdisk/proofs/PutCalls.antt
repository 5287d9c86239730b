-- A put, call by call.
use Rattle.std.proofs.Common.{◌≡◌, ℕ, ◌+◌, ◌≤◌, ◌<◌, ◌^◌, List, [], ◌∷◌, length, Option, Some, None, Result, Ok, Err, OnOk, OnErr, sym, subst, arith}
use Rattle.eql_outside.specs.declared.disk.Area.{Area}
use Rattle.eql_outside.specs.Areas.{Write}
use Rattle.eql_outside.specs.Moments.{History, DiskTells}
use Rattle.eql_ckdisk.specs.Found.{Found, nothing, text, damaged, foreign, generation_of, Finds, LastCut, IsAt, next_area, next, block}
use Rattle.eql_ckdisk.specs.Going.{Goes, Keeps}
use Rattle.eql_ckdisk.specs.Writing.{WritesAndSyncs, WroteThrough}
use Rattle.eql_outside.specs.DiskLaws.{ImagesAreThere}
use Rattle.eql_ckdisk.specs.Putting.{Stands, text_at, PutsText, HasPutText}
use Rattle.eql_ckdisk.proofs.Moving.{stays}
use Rattle.eql_ckdisk.proofs.Taken.{IsOwn}
use Rattle.eql_ckdisk.proofs.PutSteps.{OtherFinds, others_at_start, first, second, third, done}

at_generation : (last : LastCut) (f : Found) → IsAt last f → generation_of f ≡ last.generation
at_generation last nothing at = sym at
at_generation last (text a g bytes) at = at.1
at_generation last (damaged a g) at = absurd at
at_generation last (foreign a) at = absurd at

at_own : (last : LastCut) (f : Found) → IsAt last f → IsOwn f
at_own last nothing at = tt
at_own last (text a g bytes) at = tt
at_own last (damaged a g) at = absurd at
at_own last (foreign a) at = absurd at

-- nothing was done
pub put_nothing : (last : LastCut) (bytes : List ℕ) (o p : Option History) → p ≡ o → DiskTells (PutsText last bytes) o p
put_nothing last bytes None None is = tt
put_nothing last bytes None (Some k) is = absurd (cc)
put_nothing last bytes (Some h) None is = absurd (cc)
put_nothing last bytes (Some h) (Some k) is = let e : k ≡ h = cc in λ f at finds. stays (Keeps f (text_at (next last) bytes)) h k e

module _ (there : ImagesAreThere) (last : LastCut) (bytes : List ℕ) (limit : last.generation < 2 ^ 63) (short : length bytes < 2 ^ 64) (area : Area) (is_area : area ≡ next_area last) where
  abbrev g : ℕ
  g = last.generation + 1

  module _ (f : Found) (at : IsAt last f) where
    older : generation_of f < g
    older = let e = at_generation last f at in omega arith

    from : 1 ≤ g
    from = omega arith

    to : g ≤ 2 ^ 63
    to = omega arith

    others : (h : History) → Finds f h.now → OtherFinds area f h.now
    others h finds = subst (λ (x : Area). OtherFinds x f h.now) (sym is_area) (others_at_start there last f h.now at finds)

    here : (h k : History) → Goes (Keeps f (text area g bytes)) h k → Goes (Keeps f (text_at (next last) bytes)) h k
    here h k goes = subst (λ (x : Area). Goes (Keeps f (text x g bytes)) h k) is_area goes

  abbrev shut : Write
  shut = record { at = 0; bytes = 0 ∷ [] }

  abbrev open_ : Write
  open_ = record { at = 0; bytes = 1 ∷ [] }

  pub put_first : (o p : Option History) → DiskTells (WritesAndSyncs area shut) o p → DiskTells (PutsText last bytes) o p
  put_first None None told = tt
  put_first None (Some k) told = told
  put_first (Some h) None told = told
  put_first (Some h) (Some k) told = λ f at finds.
      here f at h k (first area f g bytes (at_own last f at) (older f at) (from f at) (to f at) short h k k k (others f at h finds) finds told)

  module _ (blk : List ℕ) (is_block : blk ≡ block (last.generation + 1) bytes) where
    pub put_second : (o p q : Option History) → DiskTells (WroteThrough area shut) o p
        → DiskTells (WritesAndSyncs area (record { at = 1; bytes = blk })) p q → DiskTells (PutsText last bytes) o q
    put_second None None None one two = tt
    put_second None None (Some k) one two = two
    put_second None (Some j) q one two = absurd one
    put_second (Some h) None q one two = absurd one
    put_second (Some h) (Some j) None one two = two
    put_second (Some h) (Some j) (Some k) one two = λ f at finds.
        here f at h k
        (second area f g bytes (at_own last f at) (older f at) (from f at) (to f at) short h j k k (others f at h finds) finds one
        (subst (λ (x : List ℕ). WritesAndSyncs area (record { at = 1; bytes = x }) j k) is_block two))

    third_goes : (h i j k : History) → WroteThrough area shut h i
        → WroteThrough area (record { at = 1; bytes = blk }) i j → WritesAndSyncs area open_ j k → PutsText last bytes h k
    third_goes h i j k one two three = λ f at finds.
        here f at h k
        (third area f g bytes (at_own last f at) (older f at) (from f at) (to f at) short h i j k (others f at h finds) finds one
        (subst (λ (x : List ℕ). WroteThrough area (record { at = 1; bytes = x }) i j) is_block two) three)

    pub put_third : (o p q r : Option History) → DiskTells (WroteThrough area shut) o p
        → DiskTells (WroteThrough area (record { at = 1; bytes = blk })) p q → DiskTells (WritesAndSyncs area open_) q r
        → DiskTells (PutsText last bytes) o r
    put_third None None None None one two three = tt
    put_third None None None (Some k) one two three = three
    put_third None None (Some j) r one two three = absurd two
    put_third None (Some i) q r one two three = absurd one
    put_third (Some h) None q r one two three = absurd one
    put_third (Some h) (Some i) None r one two three = absurd two
    put_third (Some h) (Some i) (Some j) None one two three = three
    put_third (Some h) (Some i) (Some j) (Some k) one two three = third_goes h i j k one two three

    pub put_done : (o p q r : Option History) → Stands last o → DiskTells (WroteThrough area shut) o p
        → DiskTells (WroteThrough area (record { at = 1; bytes = blk })) p q → DiskTells (WroteThrough area open_) q r
        → DiskTells (HasPutText last bytes) o r
    put_done None None None None stands one two three = tt
    put_done None None None (Some k) stands one two three = three
    put_done None None (Some j) r stands one two three = absurd two
    put_done None (Some i) q r stands one two three = absurd one
    put_done (Some h) None q r stands one two three = absurd one
    put_done (Some h) (Some i) None r stands one two three = absurd two
    put_done (Some h) (Some i) (Some j) None stands one two three = three
    put_done (Some h) (Some i) (Some j) (Some k) (f, at, finds) one two three = record {
      going = third_goes h i j k one two three.going;
      finds = subst (λ (x : Area). Finds (text x g bytes) k.now) is_area
          (done area f g bytes (at_own last f at) (older f at) (from f at) (to f at) short h i j k (others f at h finds) finds one
          (subst (λ (x : List ℕ). WroteThrough area (record { at = 1; bytes = x }) i j) is_block two) three);
    }

pub weaker : (area : Area) (o p : Option History) (w : Write) → DiskTells (WroteThrough area w) o p
    → DiskTells (WritesAndSyncs area w) o p
weaker area None None w told = tt
weaker area None (Some k) w told = told
weaker area (Some h) None w told = told
weaker area (Some h) (Some k) w told = told.going

-- whatever the last call returned
pub either : {T E : Type 0} (r : Result T E) (P Q X : Type 0) → OnOk r P → OnErr r Q → (P → X) → (Q → X) → X
either (Ok x) P Q X p q f g = f p
either (Err e) P Q X p q f g = g q
