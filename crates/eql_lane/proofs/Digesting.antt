-- Digests of bytes that are read on.
use Rattle.std.proofs.Common.{◌≡◌, ℕ, ◌+◌, List, [], ◌++◌, length, take, drop, Option, Some, None, refl, sym, ap, ◌∙◌, append_assoc}
use Rattle.std.specs.Prelude.{IfSome}
use Rattle.std.proofs.Math.Seq.{take-add, take-append_seam}
use Rattle.eql_digest.specs.declared.digest.Digest.{Digest}
use Rattle.eql_digest.specs.Digests.{with_bytes, start, IsDigestOf}
use Rattle.eql_digest.proofs.Taking.{with_bytes_append}
use Rattle.eql_values.specs.declared.cut.LaneCut.{LaneCut}
use Rattle.eql_lane.specs.Buffers.{IsOfBytes}
use Rattle.eql_lane.specs.Lanes.{HasDigest}
use Rattle.eql_lane.specs.Views.{AreAtHand}

-- no bytes are added
pub none_added : (digest : Digest) → digest ≡ with_bytes digest []
unfolding with_bytes
none_added digest = refl

pub of_none : IsOfBytes start
of_none = ([], none_added start)

-- the bytes of which a digest is, and a piece behind them
pub added : (digest next : Digest) (before piece : List ℕ) → IsDigestOf digest before → IsDigestOf next (before ++ piece) → next ≡ with_bytes digest piece
added digest next before piece is next_is =
    next_is ∙ with_bytes_append start before piece ∙ ap (λ (d : Digest). with_bytes d piece) (sym is)

pub added_on : (digest next : Digest) (before piece : List ℕ) → IsDigestOf digest before → next ≡ with_bytes digest piece → IsDigestOf next (before ++ piece)
added_on digest next before piece is next_is =
    next_is ∙ ap (λ (d : Digest). with_bytes d piece) is ∙ sym (with_bytes_append start before piece)

-- the bytes that a text goes on with
taken_next : (text : List ℕ) (at : ℕ) (more rest : List ℕ) → drop at text ≡ more ++ rest → take (at + length more) text ≡ take at text ++ more
taken_next text at more rest parts =
    take-add at (length more) text ∙ ap (λ (l : List ℕ). take at text ++ l) (ap (take (length more)) parts ∙ take-append_seam more rest)

pub digest_on : (text left : Option (List ℕ)) (taken : ℕ) (pending more rest : List ℕ) (cut next : LaneCut) → pending ≡ more ++ rest → next.offset ≡ cut.offset + length more
    → next.digest ≡ with_bytes cut.digest more → IfSome text (λ t. AreAtHand t left cut.offset taken pending) → HasDigest text cut → HasDigest text next
digest_on None left taken pending more rest cut next parts offset digest told is = tt
digest_on (Some t) left taken pending more rest cut next parts offset digest told is =
    added_on cut.digest next.digest (take cut.offset t) more is digest
    ∙ ap (with_bytes start)
    (sym (taken_next t cut.offset more (rest ++ drop taken t) (told.parts ∙ ap (λ (l : List ℕ). l ++ drop taken t) parts ∙ append_assoc more rest (drop taken t)))
    ∙ ap (λ (n : ℕ). take n t) (sym offset))
