-- Two runs of a listing of three lines, computed.
use Rattle.std.specs.Prelude.{◌≡◌, pos, ℕ, List, [], ◌∷◌, None, refl, codes}
use Rattle.std.specs.Fmt.{digits}
use Rattle.std.specs.Str.{chars, is_utf8}
use Rattle.serde_json.proofs.OnLiterals.{serde_json_on_literals}
use Rattle.eql_cut.specs.declared.cut.Cut.{Cut}
use Rattle.eql_runs.specs.Searches.{listing_of}
use Rattle.eql_runs.specs.Starts.{a_cut, nothing_kept}
use Rattle.eql_runs.specs.Composing.{FollowOn, HasNumber, IsLineOf, Ran, a_new_cut}
use Rattle.eql_runs.specs.RunExamples.{any_event}

-- three events
abbrev three : List ℕ
three = codes "{\"@timestamp\":1}\n{\"@timestamp\":2}\n{\"@timestamp\":3}\n"

three_lines : listing_of any_event (three ∷ []) ≡ codes "1 [] 0:1\n2 [] 0:2\n3 [] 0:3\n"
unfolding serde_json_on_literals is_utf8 chars digits lib.Utf8.encode
three_lines = refl

-- a cut that counts one line
abbrev one_counted : Cut
one_counted = record {
  head = record { query = codes "any where true"; mapping = []; tie = None; slack = 0; shards = 1 };
  mark = pos 2000000;
  lanes = [];
  holders = [];
  book = record { found = 1; listed = 1; pipes = [] };
}

-- the first run put it and stopped within its second line; the next one began with it, and was done
abbrev stopped : Ran
stopped = record { began = nothing_kept; wrote = codes "1 [] 0:1\n2 []"; left = a_cut 4 1 one_counted }

abbrev done : Ran
done = record { began = a_cut 4 1 one_counted; wrote = codes "2 [] 0:2\n3 [] 0:3\n"; left = a_cut 4 1 one_counted }

they_follow : FollowOn any_event (three ∷ []) stopped (done ∷ [])
unfolding serde_json_on_literals is_utf8 chars digits lib.Utf8.encode
they_follow = (
  record {
    front = (codes " 0:2\n3 [] 0:3\n", refl);
    leaves = a_new_cut 4 1 one_counted (codes "kept\n") refl (codes "2 []", refl);
  },
  refl,
  refl,
)

-- the second line stands in the output of the second run, and has the number 2
second_line : IsLineOf done.wrote (codes "2 [] 0:2")
unfolding lib.Utf8.encode
second_line = record { before = []; after = codes "3 [] 0:3\n"; stands = refl; starts = refl; is_one = refl }

it_is_numbered : HasNumber (codes "2 [] 0:2") 2
unfolding digits lib.Utf8.encode
it_is_numbered = (codes "[] 0:2", refl)
