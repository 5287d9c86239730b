-- Rounds from what their calls say.
use Rattle.std.proofs.Common.{◌≡◌, ◌≢◌, inl, inr, ℕ, Bool, true, false, List, Option, None, Some, refl, sym, ap, ◌∙◌, arith, subst}
use Rattle.std.specs.Prelude.{Result, Ok, Err, OnErr}
use Rattle.std.proofs.lemmas.List.{append-nil}
use Rattle.eql_values.specs.declared.order.Mark.{Mark}
use Rattle.eql_laws.specs.Belows.{between}
use Rattle.eql_outside.specs.Written.{WroteFront}
use Rattle.eql_outside.specs.declared.disk.Disk as disks
use Rattle.eql_outside.specs.declared.sink.Sink as sinks
use Rattle.eql_book.specs.Books.{BookState, let_out}
use Rattle.eql_book.specs.Listing.{listing}
use Rattle.eql_conductor.specs.declared.stop.Stop.{Stop}
use Rattle.eql_conductor.specs.declared.stop.Stop.TheVariants as stop
use Rattle.eql_conductor.specs.Benches.{Known, Rests}
use Rattle.eql_conductor.specs.Going.{LanesGo, Went, StopsBy}
use Rattle.eql_conductor.specs.Rounds.{found_by, RoundBreaks, RoundRests, RoundStops, StopsAt, TellsSink}
use Rattle.eql_conductor.specs.Saving.{TellsDisk}
use Rattle.eql_conductor.proofs.Onward.{stops_on, went_on}
use Rattle.eql_laws.proofs.MarkLemmas.{at_most_self}
use Rattle.eql_conductor.proofs.Stays.{lanes_stay, parts_stay}

-- ---- why it stops
abbrev pub err_or : {X : Type 0} → Stop → Result X Stop → Stop
err_or by (Ok x) = by
err_or by (Err e) = e

-- no call of the bench is a fault of the sink, or of the disk
no_write : (by : Stop) (a b : Known) → StopsBy by a b → by ≢ stop.Write
no_write by a b h e = subst (λ (s : Stop). StopsBy s a b) e h

no_put : (by : Stop) (a b : Known) → StopsBy by a b → by ≢ stop.Disk
no_put by a b h e = subst (λ (s : Stop). StopsBy s a b) e h

-- so it tells of neither
pub sink_still : {A K : Type 0} (output : sinks.Ghosts K) (sink : K) (by : Stop) (a b : Known) → StopsBy by a b → TellsSink {A = A} output sink sink (Err by)
sink_still output sink by a b h = record {
  silent = λ e. e;
  cause = λ e. absurd (no_write by a b h (ap (err_or by) e));
  steady = λ e. refl;
  counts = omega arith;
  unfailing = λ u. ((λ e. no_write by a b h (ap (err_or by) e)), u);
}

pub disk_still : {A D : Type 0} (disk : disks.Ghosts D) (d : D) (by : Stop) (a b : Known) → StopsBy by a b → TellsDisk {A = A} disk d d (Err by)
disk_still disk d by a b h = record {
  cause = λ e. absurd (no_put by a b h (ap (err_or by) e));
  steady = λ e. refl;
  counts = omega arith;
  unfailing = λ u. ((λ e. no_put by a b h (ap (err_or by) e)), u);
}

-- nor does what succeeds without them
pub sink_passes : {A K : Type 0} (output : sinks.Ghosts K) (sink : K) (x : A) → TellsSink output sink sink (Ok x)
sink_passes output sink x = record {
  silent = λ e. e;
  cause = λ e. absurd (let f = e in cc);
  steady = λ e. refl;
  counts = omega arith;
  unfailing = λ u. ((λ e. cc), u);
}

pub disk_passes : {A D : Type 0} (disk : disks.Ghosts D) (d : D) (x : A) → TellsDisk disk d d (Ok x)
disk_passes disk d x = record { cause = λ e. absurd (let f = e in cc); steady = λ e. refl; counts = omega arith; unfailing = λ u. ((λ e. cc), u) }

-- what is told where another answer is as good
pub sink_stops : {A B K : Type 0} (output : sinks.Ghosts K) (before now : K) (by : Stop) → TellsSink {A = A} output before now (Err by) → TellsSink {A = B} output before now (Err by)
sink_stops output before now by tells = record {
  silent = tells.silent;
  cause = λ e. tells.cause (ap Err (ap (err_or by) e));
  steady = λ apart. tells.steady (λ e. apart (ap Err (ap (err_or by) e)));
  counts = tells.counts;
  unfailing = λ u. let both = tells.unfailing u in ((λ e. both.0 (ap Err (ap (err_or by) e))), both.1);
}

pub sink_goes : {A B K : Type 0} (output : sinks.Ghosts K) (before now : K) (x : A) (y : B) → TellsSink output before now (Ok x) → TellsSink output before now (Ok y)
sink_goes output before now x y tells = record {
  silent = tells.silent;
  cause = λ e. absurd (let f = e in cc);
  steady = λ apart. tells.steady (λ e. cc);
  counts = tells.counts;
  unfailing = λ u. ((λ e. cc), (tells.unfailing u).1);
}

pub stops_at_on : (by : Stop) (a b c : Known) → LanesGo a b → Went a b → StopsAt by b c → StopsAt by a c
stops_at_on by a b c go went (inl h) = inl (stops_on by a b c go went h)
stops_at_on by a b c go went (inr h) = inr (h.0, went_on a b c went h.1)

pub on_err : {X E Q : Type 0} (r : Result X E) → Q → OnErr r Q
on_err (Ok x) q = tt
on_err (Err e) q = q

-- ---- nothing was written
pub wrote_none : (bytes : List ℕ) (w : Option (List ℕ)) → WroteFront bytes w w
wrote_none bytes None = tt
wrote_none bytes (Some old) = (0, ap Some (sym (append-nil old)))

-- a round that stopped before anything was given to the book
pub breaks_before : (last mark : Mark) (a : Known) (book : BookState) (w : Option (List ℕ)) → RoundBreaks last mark a book book w w
breaks_before last mark a book w = record {
  whole = λ e. refl;
  told = λ reads slack texts rules all of was. wrote_none (listing book.places (let_out book.pipes book.kept (found_by rules all (between reads slack texts last mark)))) w;
}

pub is_spoilt : (whole : Bool) → whole ≡ false → whole ≡ true → {X : Type 0} → X
is_spoilt whole e f {X} = absurd (let g = sym e ∙ f in cc)

pub round_rests : (last : Mark) (a b : Known) (book : BookState) (w : Option (List ℕ)) → Rests a b → RoundRests last a b book book w w
round_rests last a b book w rests = record {
  lanes = λ texts at. lanes_stay texts last a b rests.same rests.lanes at;
  parts = λ rules all was. parts_stay rules all last a b rests.same rests.parts was;
  book_is = refl;
  wrote_is = refl;
}

-- a round that stopped before a mark was known
pub stops_before : (last : Mark) (a : Known) (book : BookState) (w : Option (List ℕ)) → RoundStops last a book book w w
stops_before last a book w = record { mark = last; later = at_most_self last; breaks = breaks_before last last a book w }
