-- what the matches of clap say of the settings that words mean
use Rattle.std.proofs.Common.{◌≡◌, ◌∙◌, sym, ap, subst, refl, List, [], Option, None, Some, IfSome, IfNone, Result, Ok, Err, IfOk, true}
use Rattle.std.proofs.Math.Path.{fun_ext}
use Rattle.clap.specs.Words.{App, Text, found_of, first_value, first_of, rows_of, matches_of, is_simple}
use Rattle.clap.specs.Faults.{is_simple_and_free}
use Rattle.clap.specs.declared.parser.matches.ArgMatches.{ArgMatches}
use Rattle.clap.proofs.WalkLemmas.{first_value-rows}
use Rattle.sidb_units.specs.declared.memory.Memory.{Memory}
use Rattle.command_words.specs.declared.settings.Settings.{Settings}
use Rattle.command_words.specs.Command.{sidb_command, full_words, refusals_of, matches_in, option_text}
use Rattle.command_words.specs.Settings.{AreSettings, IsSettingsOf}

pub command_is_free : is_simple_and_free sidb_command ≡ true
unfolding sidb_command
command_is_free = refl

pub command_is_simple : is_simple sidb_command ≡ true
unfolding sidb_command
command_is_simple = refl

-- the values that the matches have are those of the words
pub values_of_matches : (app : App) (words texts : List Text) (m : ArgMatches) → app ≡ sidb_command → texts ≡ full_words words → rows_of (found_of m) ≡ matches_of app texts → first_value (found_of m) ≡ option_text words
unfolding matches_in
values_of_matches app words texts m is are rows =
    let all : rows_of (found_of m) ≡ matches_in words = rows ∙ ap (λ (a : App). matches_of a texts) is ∙ ap (matches_of sidb_command) are in
    fun_ext (λ name. first_value-rows (found_of m) name ∙ ap (first_of name) all)

-- settings that are found are those of the words
pub settings_found : (words : List Text) (value : Text → Option Text) (r : Result (Option Settings) Memory) → value ≡ option_text words → refusals_of words ≡ [] → IfOk r (λ read. IfSome read (AreSettings value)) → IfOk r (λ read. IfSome read (IsSettingsOf words))
settings_found words value (Err e) same taken are = tt
settings_found words value (Ok None) same taken are = tt
settings_found words value (Ok (Some s)) same taken are = record {
  taken = taken;
  values = subst (λ (v : Text → Option Text). AreSettings v s) same are;
}

-- where none are found, the words mean none
pub no_settings_found : (words : List Text) (value : Text → Option Text) (r : Result (Option Settings) Memory) → value ≡ option_text words → IfOk r (λ read. IfNone read ((s : Settings) → AreSettings value s → ⊥)) → IfOk r (λ read. IfNone read ((s : Settings) → IsSettingsOf words s → ⊥))
no_settings_found words value (Err e) same none = tt
no_settings_found words value (Ok None) same none = λ s is. none s (subst (λ (v : Text → Option Text). AreSettings v s) (sym same) is.values)
no_settings_found words value (Ok (Some s)) same none = tt
