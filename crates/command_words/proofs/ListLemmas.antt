-- one more option of a command, and one more word of a list
use Rattle.std.proofs.Common.{◌≡◌, ◌∙◌, sym, ap, ℕ, ◌+◌, ◌<◌, List, [], ◌∷◌, ◌++◌, length, get_or, take, map, Some}
use Rattle.std.proofs.lemmas.List.{map_more, map-append, take_more}
use Rattle.std.proofs.lemmas.List.Sums.{fold-append}
use Rattle.std.proofs.lemmas.Option.{slice_get_within, get_or_from_slice_get}
use Rattle.std.specs.List.{slice_get}
use Rattle.std.specs.Borrow.{Bor}
use Rattle.clap.specs.Words.{App, Text, with_rule}
use Rattle.command_words.specs.Command.{option_rule, with_options, full_words}

pub one_more_option : (first old new : App) (names : List (Bor Text)) (i : ℕ) (d : Bor Text) → i < length names → old ≡ with_options first (map (λ name. name.now) (take i names)) → new ≡ with_rule old (option_rule (get_or names i d).now) → new ≡ with_options first (map (λ name. name.now) (take (i + 1) names))
one_more_option first old new names i d within before here =
    here ∙ ap (λ (a : App). with_rule a (option_rule (get_or names i d).now)) before
    ∙ sym (ap (with_options first) (map_more (λ name. name.now) names i d within)
    ∙ fold-append (λ a name. with_rule a (option_rule name)) first (map (λ name. name.now) (take i names)) ((get_or names i d).now ∷ []))

pub one_more_word : (texts more : List (Bor Text)) (text : Bor Text) (words : List Text) (at : ℕ) → map (λ t. t.now) texts ≡ full_words (take at words) → more ≡ texts ++ text ∷ [] → slice_get words at ≡ Some text.now → map (λ t. t.now) more ≡ full_words (take (at + 1) words)
one_more_word texts more text words at before pushed here =
    ap (map (λ t. t.now)) pushed ∙ map-append (λ t. t.now) texts (text ∷ []) ∙ ap (λ l. l ++ text.now ∷ []) before
    ∙ sym (ap full_words (take_more words at [] (slice_get_within words at text.now here)
    ∙ ap (λ w. take at words ++ w ∷ []) (get_or_from_slice_get words at text.now [] here)))
