use Rattle.std.proofs.Common.{List, ℕ, ◌∷◌, ◌++◌, ◌/◌, ◌%◌, ◌∙◌}
use Rattle.std.specs.Prelude.{codes}
use Rattle.eql_values.specs.Shown.{hex_digit, upper_digits, escape_by_number}
use Rattle.eql_parser.proofs.Pages.{adds_ok, escape_on}
use Rattle.eql_parser.proofs.printing.leaf.put_code.Goals as goal

pub returns : goal.returns
returns c =
    let page = c.args.page.now in
    let number = c.args.number in
    adds_ok c.put_lower.result page c.put_upper.new.page c.put_lower.new.page
    (λ (rest : List ℕ). hex_digit (number / 16 % 16) ∷ hex_digit (number % 16) ∷ (codes "}" ++ rest)) (λ (rest : List ℕ). escape_by_number number ++ rest) c.put_lower.ensures
    (λ rest. c.in_ok-put_upper.ensures (hex_digit (number / 16 % 16) ∷ hex_digit (number % 16) ∷ (codes "}" ++ rest))
    ∙ c.in_ok-put.ensures (upper_digits number ++ (hex_digit (number / 16 % 16) ∷ hex_digit (number % 16) ∷ (codes "}" ++ rest)))
    ∙ escape_on page number rest)
