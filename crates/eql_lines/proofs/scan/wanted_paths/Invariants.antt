use Rattle.std.proofs.Common.{◌≡◌, ◌∷◌, map, take, string_bytes, encode_utf8_all}
use Rattle.eql_lines.specs.Reading.{time_path, category_path}
use Rattle.eql_lines.specs.WantedPaths.{tie_path}
use Rattle.eql_lines.proofs.scan.wanted_paths.Given as goal

-- three paths, and those of the fields so far
abbrev pub invariant-loop-name : goal.invariant-loop-name
invariant-loop-name l =
    map string_bytes l.paths.items
    ≡ time_path ∷ category_path ∷ tie_path l.wanted.tie ∷ map (λ f. encode_utf8_all f.0) (take l.name-index l.name-items)
