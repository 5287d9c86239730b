-- What the lines of a listing say of its summary.
use Rattle.std.proofs.Common.{◌≡◌, ℕ, List, [], refl, sym, ap, ◌∙◌}
use Rattle.std.specs.Prelude.{Option, None, Some}
use Rattle.std.proofs.lemmas.List.{append-nil}
use Rattle.std.proofs.lemmas.Option.{same_Some}
use Rattle.eql_values.specs.Lines.{lines_of}
use Rattle.eql_outside.specs.Written.{WroteFront}
use Rattle.eql_runs.specs.Made.{made_texts}
use Rattle.eql_runs.specs.Searches.{listed_of}
use Rattle.eql_runs.specs.RunLaws.{MadeIsASearch}
use Rattle.eql_runs.specs.Summaries.{made_lines, Makes, summary}
use Rattle.eql_runs.proofs.ListingLines.{listing_lines}
use Rattle.eql_summary.specs.Written.{IsMadeListing, MakesFront}

-- the summary of a listing is what the run writes
pub summary_makes : (events : ℕ) (written : Option (List ℕ)) (bytes listing text : List ℕ) → IsMadeListing events written
    → written ≡ Some bytes → listing ≡ bytes → text ≡ summary events (lines_of listing) → Makes events text []
summary_makes events written bytes listing text made bytes_are lent is = record {
  search = made.0;
  is_search = made.1;
  bytes_are =
      is ∙ ap (λ (b : List ℕ). summary events (lines_of b)) (lent ∙ same_Some _ _ (sym bytes_are ∙ made.2))
      ∙ ap (summary events) (listing_lines made.0.places (listed_of made.0 (made_texts events)));
  report_is = refl;
}

-- nothing is a front of what the run writes
nothing_wrote : (bytes : List ℕ) (out : Option (List ℕ)) → WroteFront bytes out out
nothing_wrote bytes None = tt
nothing_wrote bytes (Some w) = (0, ap (λ (x : List ℕ). Some x) (sym (append-nil w)))

pub made_nothing : MadeIsASearch → (events : ℕ) (out : Option (List ℕ)) → MakesFront events out out
made_nothing made events out = (
  made_lines events made.0,
  [],
  record { search = made.0; is_search = made.1; bytes_are = refl; report_is = refl },
  nothing_wrote (made_lines events made.0) out,
)
