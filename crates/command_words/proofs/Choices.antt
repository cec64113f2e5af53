-- a name makes one choice, or makes none
use Rattle.std.proofs.Common.{◌≡◌, ◌∙◌, sym, ap, refl, ℕ, ◌+◌, ◌*◌, ◌==◌, List, [], ◌∷◌, ◌⊎◌, inl, inr, Option, None, Some, if◌then◌else◌, slice_index_or}
use Rattle.clap.specs.Walk.{Text}
use Rattle.command_words.specs.declared.settings.Task.{Task}
use Rattle.command_words.specs.declared.settings.Task.TheVariants.{Ground, Potentials, Certify, Check, Window, Occupation, Range, Gen, Truth, Domain, Region}
use Rattle.command_words.specs.declared.settings.InputForm.{InputForm}
use Rattle.command_words.specs.declared.settings.InputForm.TheVariants.{Sites, Sqd, Table}
use Rattle.command_words.specs.Options.{IsChoice}
use Rattle.command_words.specs.Settings.{form_name, task_name}
use Rattle.command_words.proofs.Decided.{HasSomeOrNone, text_decided}

-- a choice is among these
abbrev IsAmong : {A : Type 0} → List A → A → Type 0
IsAmong [] a = ⊥
IsAmong (b ∷ rest) a = (a ≡ b) ⊎ IsAmong rest a

-- one of these has the name, or none of them has it
among : {A : Type 0} (name_of : A → Text) (text : Text) (all : List A) → ((a : A) × (text ≡ name_of a)) ⊎ ((a : A) → IsAmong all a → text ≡ name_of a → ⊥)
among name_of text [] = inr (λ a never is. never)
among {A} name_of text (b ∷ rest) = by (text_decided text (name_of b)) (among name_of text rest)
  where
    by : (text ≡ name_of b) ⊎ (text ≡ name_of b → ⊥) → ((a : A) × (text ≡ name_of a)) ⊎ ((a : A) → IsAmong rest a → text ≡ name_of a → ⊥)
        → ((a : A) × (text ≡ name_of a)) ⊎ ((a : A) → IsAmong (b ∷ rest) a → text ≡ name_of a → ⊥)
    by (inl is) later = inl (b, is)
    by (inr never) (inl later) = inl later
    by (inr never) (inr none) = inr no_choice
      where
        no_choice : (a : A) → IsAmong (b ∷ rest) a → text ≡ name_of a → ⊥
        no_choice a (inl first) is = never (is ∙ ap name_of first)
        no_choice a (inr later) is = none a later is

-- where these are all, a name is of one choice, or of none
some_choice : {A : Type 0} (name_of : A → Text) (all : List A) → ((a : A) → IsAmong all a) → (preset : A) (told : Option Text) → HasSomeOrNone (IsChoice name_of preset told)
some_choice name_of all each preset None = inl (preset, refl)
some_choice {A} name_of all each preset (Some text) = by (among name_of text all)
  where
    by : ((a : A) × (text ≡ name_of a)) ⊎ ((a : A) → IsAmong all a → text ≡ name_of a → ⊥) → HasSomeOrNone (IsChoice name_of preset (Some text))
    by (inl found) = inl found
    by (inr none) = inr (λ a is. none a (each a) is)

-- where the choice is known by its name, a name makes one choice
one_choice : {A : Type 0} (name_of : A → Text) (known : Text → Option A) → ((a : A) → known (name_of a) ≡ Some a) → (preset : A) (told : Option Text) (a b : A)
    → IsChoice name_of preset told a → IsChoice name_of preset told b → a ≡ b
one_choice name_of known is preset None a b e f = e ∙ sym f
one_choice {A} name_of known is preset (Some text) a b e f = same a b (sym (is a) ∙ ap known (sym e ∙ f) ∙ is b)
  where
    same : (a b : A) → Some a ≡ Some b → a ≡ b
    same a b e = cc

-- the first two letters of a name
unfoldable pub key : Text → ℕ
key text = slice_index_or text 0 0 * 1000 + slice_index_or text 1 0

-- all tasks
abbrev tasks : List Task
tasks = Ground ∷ Potentials ∷ Certify ∷ Check ∷ Window ∷ Occupation ∷ Range ∷ Gen ∷ Truth ∷ Domain ∷ Region ∷ []

each_task : (task : Task) → IsAmong tasks task
each_task Ground = inl refl
each_task Potentials = inr (inl refl)
each_task Certify = inr (inr (inl refl))
each_task Check = inr (inr (inr (inl refl)))
each_task Window = inr (inr (inr (inr (inl refl))))
each_task Occupation = inr (inr (inr (inr (inr (inl refl)))))
each_task Range = inr (inr (inr (inr (inr (inr (inl refl))))))
each_task Gen = inr (inr (inr (inr (inr (inr (inr (inl refl)))))))
each_task Truth = inr (inr (inr (inr (inr (inr (inr (inr (inl refl))))))))
each_task Domain = inr (inr (inr (inr (inr (inr (inr (inr (inr (inl refl)))))))))
each_task Region = inr (inr (inr (inr (inr (inr (inr (inr (inr (inr (inl refl))))))))))

-- the task of which a name begins with these letters
unfoldable pub task_by : ℕ → Option Task
task_by k =
    if k == 103114
    then Some Ground
    else if k == 112111
    then Some Potentials
    else if k == 99101
    then Some Certify
    else if k == 99104
    then Some Check
    else if k == 119105
    then Some Window
    else if k == 111099
    then Some Occupation
    else if k == 114097
    then Some Range
    else if k == 103101
    then Some Gen
    else if k == 116114
    then Some Truth
    else if k == 100111
    then Some Domain
    else if k == 114101
    then Some Region
    else None

known_task : (task : Task) → task_by (key (task_name task)) ≡ Some task
unfolding key task_by
known_task Ground = refl
known_task Potentials = refl
known_task Certify = refl
known_task Check = refl
known_task Window = refl
known_task Occupation = refl
known_task Range = refl
known_task Gen = refl
known_task Truth = refl
known_task Domain = refl
known_task Region = refl

-- the name of a task begins with letters of one
pub begins_a_task : (text : Text) (task : Task) → text ≡ task_name task → task_by (key text) ≡ Some task
begins_a_task text task is = ap (λ t. task_by (key t)) is ∙ known_task task

-- all forms
abbrev forms : List InputForm
forms = Sites ∷ Sqd ∷ Table ∷ []

each_form : (form : InputForm) → IsAmong forms form
each_form Sites = inl refl
each_form Sqd = inr (inl refl)
each_form Table = inr (inr (inl refl))

-- the form of which a name begins with these letters
unfoldable pub form_by : ℕ → Option InputForm
form_by k = if k == 115105 then Some Sites else if k == 115113 then Some Sqd else if k == 116097 then Some Table else None

known_form : (form : InputForm) → form_by (key (form_name form)) ≡ Some form
unfolding key form_by
known_form Sites = refl
known_form Sqd = refl
known_form Table = refl

-- the same for the name of a form
pub begins_a_form : (text : Text) (form : InputForm) → text ≡ form_name form → form_by (key text) ≡ Some form
begins_a_form text form is = ap (λ t. form_by (key t)) is ∙ known_form form

pub some_task : (told : Option Text) → HasSomeOrNone (IsChoice task_name Ground told)
some_task = some_choice task_name tasks each_task Ground

pub one_task : (told : Option Text) (a b : Task) → IsChoice task_name Ground told a → IsChoice task_name Ground told b → a ≡ b
one_task = one_choice task_name (λ text. task_by (key text)) known_task Ground

pub some_form : (told : Option Text) → HasSomeOrNone (IsChoice form_name Sites told)
some_form = some_choice form_name forms each_form Sites

pub one_form : (told : Option Text) (a b : InputForm) → IsChoice form_name Sites told a → IsChoice form_name Sites told b → a ≡ b
one_form = one_choice form_name (λ text. form_by (key text)) known_form Sites
