-- Worked rows, computed.
use Rattle.std.specs.Prelude.{◌≡◌, ◌++◌, pos, [], ◌∷◌, Some, None, true, false, refl, codes}
use Rattle.std.specs.Fmt.{digits}
use Rattle.eql_digest.specs.declared.digest.Digest.{Digest}
use Rattle.eql_digest.specs.Digests.{start, with_bytes}
use Rattle.eql_values.specs.declared.cut.LaneCut.{LaneCut}
use Rattle.eql_lexer.specs.declared.refusal.LexRefused.TheVariants as lexed
use Rattle.eql_query.specs.QueryTree.{event}
use Rattle.eql_query.specs.Tree as t
use Rattle.eql_words.specs.declared.commands.Command.TheVariants as command
use Rattle.eql_runs.specs.CutRefusals.{foreign, other_bytes, short, unfit}
use Rattle.eql_runs.specs.Files.{Files, first_missing}
use Rattle.eql_runs.specs.Refusals.{no_file, lex, cut, refusal_status, refusal_text}
use Rattle.eql_runs.specs.Runs.{names_of}
use Rattle.eql_runs.specs.Searches.{Search, nanos_in, listing_of, report_of}
use Rattle.eql_runs.specs.Starts.{keeps_digests, lanes_over}

-- `check` names no shards
names_of_check :
    names_of (command.Check (codes "q") (codes "f"))
    ≡ Some (record { query = codes "q"; fields = codes "f"; shards = [] })
names_of_check = refl

-- of the names c, b and a the first that isn't there is b
abbrev two_files : Files
two_files = (codes "a", codes "x") ∷ (codes "c", codes "y") ∷ []

b_is_missing : first_missing two_files (codes "c" ∷ codes "b" ∷ codes "a" ∷ []) ≡ Some (codes "b")
unfolding lib.Utf8.encode
b_is_missing = refl

all_are_there : first_missing two_files (codes "c" ∷ codes "a" ∷ []) ≡ None
unfolding lib.Utf8.encode
all_are_there = refl

-- the status of refusals, and what is told of them
no_file_is_1 : refusal_status (no_file (codes "a")) ≡ 1
no_file_is_1 = refl

unfit_is_told :
    (refusal_status (cut unfit) ≡ 7)
    × (refusal_text (cut unfit) ≡ codes "checkpoint: Unfit\n")
unfolding lib.Utf8.encode
unfit_is_told = (refl, refl)

foreign_is_told :
    (refusal_status (cut (foreign 1)) ≡ 7)
    × (refusal_text (cut (foreign 1)) ≡ codes "checkpoint: Foreign area 1\n")
unfolding digits lib.Utf8.encode
foreign_is_told = (refl, refl)

short_is_told :
    refusal_text (cut (short 0 1015 506)) ≡ codes "checkpoint: Short shard 0 offset 1015 had 506\n"
unfolding digits lib.Utf8.encode
short_is_told = refl

other_bytes_are_told :
    (refusal_status (cut (other_bytes 12)) ≡ 7)
    × (refusal_text (cut (other_bytes 12)) ≡ codes "checkpoint: Differs shard 12\n")
unfolding digits lib.Utf8.encode
other_bytes_are_told = (refl, refl)

-- the third format has no digests, the fourth has
digests_from_4 : (keeps_digests 3 ≡ false) × (keeps_digests 4 ≡ true)
digests_from_4 = (refl, refl)

lex_is_told :
    (refusal_status (lex lexed.TooLong) ≡ 3)
    × (refusal_text (lex lexed.TooLong) ≡ codes "lex: TooLong\n")
unfolding lib.Utf8.encode
lex_is_told = (refl, refl)

-- five seconds
five_seconds : nanos_in 5000 ≡ pos 5000000000
five_seconds = refl

-- a shard of three bytes of which two were read, at first with the digest of none
abbrev two_read : Digest → LaneCut
two_read digest = record {
  offset = 2;
  digest = digest;
  closed = true;
  best = None;
  counts = record { lines = 1; accepted = 0; late = 0; rejected = 0; first = None };
  items = [];
}

-- the second shard has no text, so its digest stays
digests_of_texts :
    lanes_over (codes "a\nb" ∷ []) (two_read start ∷ two_read start ∷ [])
    ≡ two_read (with_bytes start (codes "a\n")) ∷ two_read start ∷ []
unfolding lib.Utf8.encode
digests_of_texts = refl

-- any where true, over two empty shards
abbrev pub any_event : Search
any_event = record {
  query = record {
    body = event (record { category = None; cond = t.bool true; by = []; runs = pos 1 });
    pipes = [];
  };
  mapping = [];
  tie = None;
  slack = None;
  places = false;
}

nothing_listed : listing_of any_event ([] ∷ [] ∷ []) ≡ []
nothing_listed = refl

both_reported :
    report_of any_event ([] ∷ [] ∷ [])
    ≡ codes "shard 0: lines 0 accepted 0 late 0 rejected 0\n"
    ++ codes "shard 1: lines 0 accepted 0 late 0 rejected 0\n"
unfolding digits lib.Utf8.encode
both_reported = refl
