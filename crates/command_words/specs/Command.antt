-- the command line as one simple command of clap, and what clap finds in a list of words
use Rattle.std.specs.Prelude.{◌∷◌, [], List, Option, Some, codes, fold}
use Rattle.clap.specs.Kinds.{Kinds}
use Rattle.clap.specs.Faults.{fault_of}
use Rattle.clap.specs.Simple.{App, new_app, new_rule, matches_of, with_rule}
use Rattle.clap.specs.Walk.{Rule, Row, Text, first_of}
use Rattle.clap.specs.declared.builder.action.ArgAction.TheVariants.{SetTrue}

-- an option that takes one text, known by its long name
abbrev pub option_rule : Text → Rule
option_rule name = record (new_rule name) { long = Some name }

-- a flag, known by its long name
abbrev pub flag_rule : Text → Rule
flag_rule name = record (new_rule name) { long = Some name; action = Some SetTrue }

-- a command with these options, in this order
abbrev pub with_options : App → List Text → App
with_options app names = fold (λ a name. with_rule a (option_rule name)) app names

-- the names of the options
abbrev pub option_names : List Text
option_names = codes "task" ∷ codes "form" ∷ codes "eps" ∷ codes "lambda" ∷ codes "depth"
    ∷ codes "gap" ∷ codes "coulomb" ∷ codes "base" ∷ codes "limit" ∷ codes "workers"
    ∷ codes "window" ∷ codes "range" ∷ codes "kt" ∷ codes "input" ∷ codes "output"
    ∷ codes "function" ∷ codes "grid" ∷ codes "number" ∷ codes "sites"
    ∷ codes "refine" ∷ []

-- the name of the program
abbrev pub program_name : Text
program_name = codes "sidb"

-- the command: options and two flags, none of which is required, has a default or excludes another
unfoldable pub sidb_command : App
sidb_command = with_rule (with_rule (with_options (new_app program_name) option_names)
    (flag_rule (codes "json"))) (flag_rule (codes "energies"))

-- the words that clap reads: the name of the program, and then the words
abbrev pub full_words : List Text → List Text
full_words words = program_name ∷ words

-- the kinds of clap's refusal of the words: none where it gives matches
unfoldable pub refusals_of : List Text → Kinds
refusals_of words = fault_of sidb_command (full_words words)

-- the rows of the matches that clap gives
unfoldable pub matches_in : List Text → List Row
matches_in words = matches_of sidb_command (full_words words)

-- the text that the words give to an option, if they give it
abbrev pub option_text : List Text → Text → Option Text
option_text words name = first_of name (matches_in words)
