use Rattle.std.proofs.Common.{◌≡◌, ℕ, List, Option, Some, drop, ◌∙◌, ap, refl, subst}
use Rattle.std.specs.Option.{IsSomeAnd}
use Rattle.std.specs.String.{string_bytes}
use Rattle.eql_outside.specs.Faults.{RoseFor, faults_in}
use Rattle.eql_outside.specs.Memory.{contents}
use Rattle.eql_outside.specs.Outside.{file_named}
use Rattle.eql_outside.specs.declared.shelf.memory.MemFile.{MemFile}
use Rattle.eql_outside.proofs.shelf.memory.MemShelfShelf.source.Goals as goal

-- the bytes left of the source are those of the file
pub returns-in_ok-source-in-Some-clause-found : goal.returns-in_ok-source-in-Some-clause-found
returns-in_ok-source-in-Some-clause-found c =
    let source = c.in_ok-source-in-Some.source in
    subst (λ (o : Option (List ℕ)). IsSomeAnd o (λ (bytes : List ℕ). ◌≡◌ {A = Option (List ℕ)} (Some (drop source.at source.bytes.items)) (Some bytes)))
    ((c.in-Some.ensures {u = tt}).bytes ∙ ap (λ (files : List MemFile). file_named (string_bytes c.args.name.now) (contents files)) c.deref.ensures.value)
    (c.in_ok-source-in-Some.ensures {u = tt}).left

-- the fault is counted for the name that was lent
pub returns-then-fails-clause-faults_named : goal.returns-then-fails-clause-faults_named
returns-then-fails-clause-faults_named c = record {
  rose = λ _.
      subst (λ (name : List ℕ). RoseFor name (faults_in c.args.self.now.names) (faults_in c.add.new.self)) (c.in_ok-lent.ensures {u = tt}) c.add.ensures;
  same = λ no. absurd (no refl);
}
