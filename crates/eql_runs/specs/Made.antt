-- Made-up texts of events.
use Rattle.std.specs.Prelude.{◌≡◌, ℕ, zero, suc, ◌/◌, ◌%◌, ◌==◌, List, [], ◌∷◌, ◌++◌, if◌then◌else◌, codes, length, map, refl, slice_get, Some}
use Rattle.std.specs.Fmt.{decimal, digits}
use Rattle.eql_values.specs.Lines.{lines_of}

-- the name of an event's process: it changes after each hundred events
abbrev pub process_name : ℕ → List ℕ
process_name i =
    if i / 100 % 3 == 0 then codes "attrib" else (if i / 100 % 3 == 1 then codes "bash" else codes "cat")

-- the line of an event, with its line feed
abbrev pub made_line : ℕ → List ℕ
made_line i =
    codes "{\"@timestamp\":" ++ decimal i ++ codes ",\"event\":{\"category\":\"process\"},\"user\":{\"name\":\"u" ++ decimal (i % 100)
    ++ codes "\"},\"process\":{\"name\":\"" ++ process_name i ++ codes "\"}}\n"

-- of the first n events the lines of those whose number modulo 4 is that of the text, in their order
abbrev pub made_text : (text n : ℕ) → List ℕ
made_text text zero = []
made_text text (suc n) = made_text text n ++ (if n % 4 == text then made_line n else [])

-- the four texts of n events
abbrev pub made_texts : ℕ → List (List ℕ)
made_texts n = made_text 0 n ∷ made_text 1 n ∷ made_text 2 n ∷ made_text 3 n ∷ []

-- no events, and event 200
of_none : made_texts 0 ≡ [] ∷ [] ∷ [] ∷ [] ∷ []
of_none = refl

of_200 : made_line 200 ≡ codes "{\"@timestamp\":200,\"event\":{\"category\":\"process\"},\"user\":{\"name\":\"u0\"},\"process\":{\"name\":\"cat\"}}\n"
unfolding digits lib.Utf8.encode
of_200 = refl

-- 201 events are that many lines, and the lines 1, 26 and 51 of the first text are those of the user u0, with each name once
abbrev counts : List (List ℕ) → List ℕ
counts texts = map (λ text. length (lines_of text)) texts

count_201 : counts (made_texts 201) ≡ 51 ∷ 50 ∷ 50 ∷ 50 ∷ []
unfolding digits lib.Utf8.encode
count_201 = refl

line_1 : slice_get (lines_of (made_text 0 201)) 0 ≡ Some (codes "{\"@timestamp\":0,\"event\":{\"category\":\"process\"},\"user\":{\"name\":\"u0\"},\"process\":{\"name\":\"attrib\"}}")
unfolding digits lib.Utf8.encode
line_1 = refl

line_26 : slice_get (lines_of (made_text 0 201)) 25 ≡ Some (codes "{\"@timestamp\":100,\"event\":{\"category\":\"process\"},\"user\":{\"name\":\"u0\"},\"process\":{\"name\":\"bash\"}}")
unfolding digits lib.Utf8.encode
line_26 = refl

line_51 : slice_get (lines_of (made_text 0 201)) 50 ≡ Some (codes "{\"@timestamp\":200,\"event\":{\"category\":\"process\"},\"user\":{\"name\":\"u0\"},\"process\":{\"name\":\"cat\"}}")
unfolding digits lib.Utf8.encode
line_51 = refl
