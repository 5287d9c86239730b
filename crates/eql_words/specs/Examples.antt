-- Worked examples, computed.
use Rattle.std.specs.Prelude.{◌≡◌, false, [], ◌∷◌, Some, None, refl, codes}
use Rattle.eql_words.specs.declared.options.OptionName.TheVariants as option
use Rattle.eql_words.specs.declared.commands.Command.TheVariants as command
use Rattle.eql_words.specs.Numbers.{number_in, time_of}
use Rattle.eql_words.specs.Spelling.{line_of, line_from}
use Rattle.eql_words.specs.Commands.{command_of}

-- numbers: leading zeros may stand, a sign may not, and seven digits are the most
leading_zeros : number_in 1 4096 (codes "0000256") ≡ Some 256
leading_zeros = refl

eight_digits : number_in 1 4096 (codes "00000256") ≡ None
eight_digits = refl

no_sign : number_in 1 4096 (codes "+7") ≡ None
no_sign = refl

no_batch : number_in 1 4096 (codes "0") ≡ None
no_batch = refl

-- times
seconds : time_of (codes "5s") ≡ Some 5000
seconds = refl

milliseconds : time_of (codes "0ms") ≡ Some 0
milliseconds = refl

longest : time_of (codes "36500d") ≡ Some 3153600000000
longest = refl

too_long : time_of (codes "36501d") ≡ None
too_long = refl

no_unit : time_of (codes "5") ≡ None
no_unit = refl

no_digits : time_of (codes "ms") ≡ None
no_digits = refl

-- options in both spellings, and the plain words
spelled : line_of (codes "--batch=7" ∷ codes "--places" ∷ codes "--slack" ∷ codes "5s" ∷ codes "a" ∷ [])
    ≡ Some (record { given = (option.Batch, codes "7") ∷ (option.Places, []) ∷ (option.Slack, codes "5s") ∷ []; plain = codes "a" ∷ [] })
unfolding line_from
spelled = refl

dashes : line_of (codes "--places" ∷ codes "--" ∷ codes "-a" ∷ codes "--" ∷ [])
    ≡ Some (record { given = (option.Places, []) ∷ []; plain = codes "-a" ∷ codes "--" ∷ [] })
unfolding line_from
dashes = refl

no_value : line_of (codes "--slack" ∷ codes "-5s" ∷ []) ≡ None
unfolding line_from
no_value = refl

late_option : line_of (codes "a" ∷ codes "--places" ∷ []) ≡ None
unfolding line_from
late_option = refl

late_dashes : line_of (codes "a" ∷ codes "--" ∷ codes "b" ∷ []) ≡ None
unfolding line_from
late_dashes = refl

flag_with_value : line_of (codes "--places=x" ∷ []) ≡ None
unfolding line_from
flag_with_value = refl

-- commands
no_words : command_of [] ≡ None
no_words = refl

help : command_of (codes "--help" ∷ []) ≡ None
unfolding line_from
help = refl

checks : command_of (codes "check" ∷ codes "--fields=f" ∷ codes "--query" ∷ codes "q" ∷ []) ≡ Some (command.Check (codes "q") (codes "f"))
unfolding line_from
checks = refl

makes : command_of (codes "made" ∷ codes "300" ∷ []) ≡ Some (command.Made 1 300)
unfolding line_from
makes = refl

finds : command_of (codes "find" ∷ codes "--query" ∷ codes "q" ∷ codes "--fields" ∷ codes "f" ∷ codes "a" ∷ codes "b" ∷ [])
    ≡ Some (command.Find (record {
      query = codes "q";
      fields = codes "f";
      tie = None;
      slack = None;
      batch = 256;
      hands = 1;
      checkpoint = None;
      places = false;
      shards = codes "a" ∷ codes "b" ∷ [];
    }))
unfolding line_from
finds = refl

checkpoint_alone : command_of (codes "find" ∷ codes "--query" ∷ codes "q" ∷ codes "--fields" ∷ codes "f" ∷ codes "--checkpoint" ∷ codes "c"
    ∷ codes "--every" ∷ codes "5" ∷ codes "a" ∷ []) ≡ None
unfolding line_from
checkpoint_alone = refl

twice : command_of (codes "find" ∷ codes "--query" ∷ codes "q" ∷ codes "--query" ∷ codes "q" ∷ codes "--fields" ∷ codes "f" ∷ codes "a" ∷ []) ≡ None
unfolding line_from
twice = refl
