-- The disk of a command, and that of words.
use Rattle.std.proofs.Common.{◌≡◌, ◌≢◌, ℕ, List, Option, Some, None, Ok, Err, refl, sym, subst, ◌∙◌}
use Rattle.std.specs.Prelude.{IfErr, Result}
use Rattle.std.proofs.lemmas.Option.{none-some, same_Some}
use Rattle.eql_outside.specs.Moments.{History}
use Rattle.eql_outside.specs.Moments as moments
use Rattle.eql_words.specs.declared.commands.Checkpoint.{Checkpoint}
use Rattle.eql_words.specs.declared.commands.Command.{Command}
use Rattle.eql_words.specs.declared.commands.Command.TheVariants as command
use Rattle.eql_words.specs.declared.commands.Find.{Find}
use Rattle.eql_words.specs.Commands.{command_of}
use Rattle.eql_ckdisk.specs.Going.{Goes}
use Rattle.eql_ckdisk.specs.Keeping.{LeavesNoMore}
use Rattle.eql_runs.specs.Files.{Files}
use Rattle.eql_runs.specs.Outcomes.{KeepDisk}
use Rattle.eql_runs.specs.Refusals.{Refusal}
use Rattle.eql_runs.specs.Runs.{AskDisk, AsksDisk, IsRefused, KeepsCuts, IsRefusedAs, by_cut, by_files}
use Rattle.eql_runs.specs.Starts.{OnDisk}
use Rattle.eql_find.specs.declared.error.FindError.{FindError}
use Rattle.eql_find.specs.Errors.{IsRefusal}
use Rattle.eql_find.proofs.EarlyErrors.{same_keeps, same_no_more}
use Rattle.eql_cli.specs.Running.{KeepsDisk}

-- a disk on which nothing is done keeps what it holds
pub kept_disk : (asked : Command) (files : Option Files) (out out' kept kept' : Option (List ℕ)) (disk now : Option History) → now ≡ disk
    → KeepsDisk asked files out out' kept kept' disk now
kept_disk (command.Find f) files out out' kept kept' disk now same = λ has. same_keeps f files out out' kept kept' disk now same
kept_disk (command.Check query fields) files out out' kept kept' disk now same = tt
kept_disk (command.Made hands events) files out out' kept kept' disk now same = tt

pub kept_words : (words : List (List ℕ)) (files : Option Files) (out out' kept kept' : Option (List ℕ)) (disk : Option History)
    → KeepDisk words files out out' kept kept' disk disk
kept_words words files out out' kept kept' disk = λ find is has. same_keeps find files out out' kept kept' disk disk refl

-- nor is what it stands for changed, where the run is refused or not
pub none_changed : (r : Result (Unit {0}) FindError) (disk now : Option History) → now ≡ disk
    → IfErr r (λ h. IsRefusal h → moments.DiskTells (Goes LeavesNoMore) disk now)
none_changed (Ok done) disk now same = tt
none_changed (Err h) disk now same = λ refusal. same_no_more disk now same

-- a search that is this command
pub found_keeps : (asked : Command) (find : Find) → asked ≡ command.Find find → (files : Option Files) (out out' kept kept' : Option (List ℕ))
    (disk now : Option History) → (find.checkpoint ≢ None → moments.DiskTells (KeepsCuts find files out out' kept kept') disk now) → KeepsDisk asked files out out' kept kept' disk now
found_keeps asked find is files out out' kept kept' disk now keeps = subst (λ (c : Command). KeepsDisk c files out out' kept kept' disk now) (sym is) keeps

pub asks_found : (asked : Command) (find : Find) → asked ≡ command.Find find → find.checkpoint ≢ None → AsksDisk asked
asks_found asked find is has = subst (λ (c : Command). AsksDisk c) (sym is) has

never_some : (o : Option Checkpoint) → ¬ (o ≢ None) → o ≡ None
never_some None never = refl
never_some (Some checkpoint) never = absurd (never (λ same. none-some checkpoint (sym same)))

pub not_asked : (asked : Command) (find : Find) → asked ≡ command.Find find → ¬ (AsksDisk asked) → find.checkpoint ≡ None
not_asked asked find is never = never_some find.checkpoint (λ has. never (asks_found asked find is has))

-- words that are this command
pub keep_words : (words : List (List ℕ)) (asked : Command) → command_of words ≡ Some asked → (files : Option Files) (out out' kept kept' : Option (List ℕ))
    (disk now : Option History) → KeepsDisk asked files out out' kept kept' disk now → KeepDisk words files out out' kept kept' disk now
keep_words words asked is files out out' kept kept' disk now keeps = λ find is_find has.
    let e : asked ≡ command.Find find = same_Some asked (command.Find find) (sym is ∙ is_find) in
    subst (λ (c : Command). KeepsDisk c files out out' kept kept' disk now) e keeps has

pub ask_words : (words : List (List ℕ)) (asked : Command) → command_of words ≡ Some asked → AsksDisk asked → AskDisk words
ask_words words asked is asks = (asked, is, asks)

-- words that are no command aren't refused by files or a disk
never_refused : {A : Type 0} (words : List (List ℕ)) → command_of words ≡ None → (fs : Files) (on : OnDisk) (r : Refusal) → IsRefused words fs on r → A
never_refused words none fs on _ (by_files c is names named own refuses) = absurd (none-some c (sym none ∙ is))
never_refused words none fs on _ (by_cut find is own refuses) = absurd (none-some (command.Find find) (sym none ∙ is))

pub not_refused : (words : List (List ℕ)) → command_of words ≡ None → (files : Option Files) (disk : Option History) (status : ℕ)
    → IsRefusedAs words files disk status
not_refused words none None disk status = tt
not_refused words none (Some fs) disk status = λ on r holds refuses. never_refused words none fs on r refuses
