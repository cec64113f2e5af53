-- the functions of one and of two bits, and their names
use Rattle.std.specs.Prelude.{◌≡◌, ℕ, ◌+◌, ◌*◌, ◌/◌, ◌%◌, ◌==◌, Bool, false, if◌then◌else◌, List, [], ◌∷◌, Some, codes, slice_get, slice_index_or}
use Rattle.gate_model.specs.declared.function.Function.{Function}

-- the names of the functions of so many bits, by number: the values by pattern are its binary digits
abbrev pub function_names : ℕ → List (List ℕ)
function_names inputs =
    if inputs == 1
    then codes "zero" ∷ codes "buf" ∷ codes "not" ∷ codes "one" ∷ []
    else if inputs == 2
    then codes "zero" ∷ codes "and" ∷ codes "gt" ∷ codes "a" ∷ codes "lt" ∷ codes "b" ∷ codes "xor"
    ∷ codes "or" ∷ codes "nor" ∷ codes "xnor" ∷ codes "notb" ∷ codes "ge" ∷ codes "nota"
    ∷ codes "le" ∷ codes "nand" ∷ codes "one" ∷ []
    else []

-- whether the binary digit of a number that counts `unit` is 1
abbrev pub has_digit : ℕ → ℕ → Bool
has_digit number unit = number / unit % 2 == 1

-- the values by pattern of the function with this number, the digits from the greatest down
abbrev pub table_of : ℕ → ℕ → List Bool
table_of inputs number =
    if inputs == 1
    then has_digit number 2 ∷ has_digit number 1 ∷ false ∷ false ∷ []
    else has_digit number 8 ∷ has_digit number 4 ∷ has_digit number 2 ∷ has_digit number 1 ∷ []

-- a name stands for a function of so many bits
pub record IsFunctionNamed (name : List ℕ) (inputs : ℕ) (f : Function) : Type 0 where
  pub number : ℕ
  pub named : slice_get (function_names inputs) number ≡ Some name
  pub of_inputs : f.inputs ≡ inputs
  pub values : f.table ≡ table_of inputs number

-- what a value for one pattern counts
abbrev pub digit : Function → ℕ → ℕ
digit f pattern = if slice_index_or f.table pattern false then 1 else 0

-- the number of a function: its values by pattern, read as binary digits
abbrev pub number : Function → ℕ
number f =
    if f.inputs == 1
    then 2 * digit f 0 + digit f 1
    else 8 * digit f 0 + 4 * digit f 1 + 2 * digit f 2 + digit f 3

-- the name of a function, and nothing where it has none
abbrev pub name_by : Function → List ℕ
name_by f = slice_index_or (function_names f.inputs) (number f) []
