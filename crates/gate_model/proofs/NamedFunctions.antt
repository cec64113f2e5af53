-- a name stands for one function of so many bits, or for none
use Rattle.std.proofs.Common.{◌≡◌, ◌∙◌, sym, ap, refl, subst, ℕ, zero, suc, ◌+◌, ◌*◌, ◌==◌, List, [], ◌∷◌, inl, inr, Option, Some, None, Bool, if◌then◌else◌, map, slice_get, slice_index_or}
use Rattle.std.proofs.lemmas.Bool.{cases_eq, ne_eqb}
use Rattle.gate_model.specs.declared.function.Function.{Function}
use Rattle.gate_model.specs.Functions.{IsFunctionNamed, function_names, table_of}
use Rattle.gate_model.proofs.FunctionLemmas.{IsAt}
use Rattle.gate_model.proofs.Decided.{HasSomeOrNone, IsDecided, text_decided}

-- a text stands at some place of a list, or at none
some_place : (name : List ℕ) (names : List (List ℕ)) → HasSomeOrNone (λ k. slice_get names k ≡ Some name)
some_place name [] = inr (λ k e. cc)
some_place name (x ∷ xs) = by (text_decided x name) (some_place name xs)
  where
    by : IsDecided (x ≡ name) → HasSomeOrNone (λ k. slice_get xs k ≡ Some name) → HasSomeOrNone (λ k. slice_get (x ∷ xs) k ≡ Some name)
    by (inl is) later = inl (0, ap Some is)
    by (inr never) (inl (k, at)) = inl (suc k, at)
    by (inr never) (inr none) = inr nowhere
      where
        nowhere : (k : ℕ) → slice_get (x ∷ xs) k ≡ Some name → ⊥
        nowhere zero e = let is : x ≡ name = cc in never is
        nowhere (suc k) e = none k e

-- a name stands for some function of so many bits, or for none
pub some_named : (name : List ℕ) (inputs : ℕ) → HasSomeOrNone (IsFunctionNamed name inputs)
some_named name inputs = by (some_place name (function_names inputs))
  where
    by : HasSomeOrNone (λ k. slice_get (function_names inputs) k ≡ Some name) → HasSomeOrNone (IsFunctionNamed name inputs)
    by (inl (k, at)) = inl (
      record { inputs = inputs; table = table_of inputs k },
      record { number = k; named = at; of_inputs = refl; values = refl },
    )
    by (inr none) = inr (λ f is. none is.number is.named)

-- the first, the second and the fourth letter of a name, by which the names are told apart
abbrev key : Option (List ℕ) → ℕ
key None = 0
key (Some name) = slice_index_or name 0 0 * 1000000 + slice_index_or name 1 0 * 1000 + slice_index_or name 3 0

-- the first place at which a key stands
abbrev place_of : ℕ → List ℕ → ℕ
place_of k [] = 0
place_of k (x ∷ xs) = if k == x then 0 else suc (place_of k xs)

-- the place of a name among the names of so many bits
abbrev place_among : ℕ → Option (List ℕ) → ℕ
place_among inputs told = place_of (key told) (map (λ name. key (Some name)) (function_names inputs))

placed_one : (n : ℕ) (name : List ℕ) → IsAt 1 name n → place_among 1 (slice_get (function_names 1) n) ≡ n
placed_one zero name e = refl
placed_one (suc zero) name e = refl
placed_one (suc (suc zero)) name e = refl
placed_one (suc (suc (suc zero))) name e = refl
placed_one (suc (suc (suc (suc n)))) name e = absurd (cc)

placed_two : (n : ℕ) (name : List ℕ) → IsAt 2 name n → place_among 2 (slice_get (function_names 2) n) ≡ n
placed_two zero name e = refl
placed_two (suc zero) name e = refl
placed_two (suc (suc zero)) name e = refl
placed_two (suc (suc (suc zero))) name e = refl
placed_two (suc (suc (suc (suc zero)))) name e = refl
placed_two (suc (suc (suc (suc (suc zero))))) name e = refl
placed_two (suc (suc (suc (suc (suc (suc zero)))))) name e = refl
placed_two (suc (suc (suc (suc (suc (suc (suc zero))))))) name e = refl
placed_two (suc (suc (suc (suc (suc (suc (suc (suc zero)))))))) name e = refl
placed_two (suc (suc (suc (suc (suc (suc (suc (suc (suc zero))))))))) name e = refl
placed_two (suc (suc (suc (suc (suc (suc (suc (suc (suc (suc zero)))))))))) name e = refl
placed_two (suc (suc (suc (suc (suc (suc (suc (suc (suc (suc (suc zero))))))))))) name e = refl
placed_two (suc (suc (suc (suc (suc (suc (suc (suc (suc (suc (suc (suc zero)))))))))))) name e = refl
placed_two (suc (suc (suc (suc (suc (suc (suc (suc (suc (suc (suc (suc (suc zero))))))))))))) name e = refl
placed_two (suc (suc (suc (suc (suc (suc (suc (suc (suc (suc (suc (suc (suc (suc zero)))))))))))))) name e = refl
placed_two (suc (suc (suc (suc (suc (suc (suc (suc (suc (suc (suc (suc (suc (suc (suc zero))))))))))))))) name e = refl
placed_two (suc (suc (suc (suc (suc (suc (suc (suc (suc (suc (suc (suc (suc (suc (suc (suc n)))))))))))))))) name e = absurd (cc)

-- where each name has its place, a name stands at one place
one_at : (inputs : ℕ) → ((n : ℕ) (name : List ℕ) → IsAt inputs name n → place_among inputs (slice_get (function_names inputs) n) ≡ n) → (name : List ℕ) (m n : ℕ) → IsAt inputs name m → IsAt inputs name n → m ≡ n
one_at inputs placed name m n e f = sym (placed m name e) ∙ ap (place_among inputs) (e ∙ sym f) ∙ placed n name f

-- functions of another number of bits have no name
no_names : (inputs : ℕ) → (inputs ≡ 1 → ⊥) → (inputs ≡ 2 → ⊥) → function_names inputs ≡ []
no_names inputs one two = rw (ne_eqb inputs 1 one, ne_eqb inputs 2 two) refl

nowhere : (name : List ℕ) (names : List (List ℕ)) (n : ℕ) → names ≡ [] → slice_get names n ≡ Some name → ⊥
nowhere name [] n empty e = cc
nowhere name (x ∷ xs) n empty e = cc

one_place : (inputs : ℕ) (name : List ℕ) (m n : ℕ) → IsAt inputs name m → IsAt inputs name n → m ≡ n
one_place inputs name m n e f = by (cases_eq inputs 1) (cases_eq inputs 2)
  where
    by : IsDecided (inputs ≡ 1) → IsDecided (inputs ≡ 2) → m ≡ n
    by (inl one) other = one_at 1 placed_one name m n (subst (λ (i : ℕ). IsAt i name m) one e) (subst (λ (i : ℕ). IsAt i name n) one f)
    by (inr never) (inl two) = one_at 2 placed_two name m n (subst (λ (i : ℕ). IsAt i name m) two e) (subst (λ (i : ℕ). IsAt i name n) two f)
    by (inr never) (inr neither) = absurd (nowhere name (function_names inputs) m (no_names inputs never neither) e)

-- a name stands for one function
pub one_named : (name : List ℕ) (inputs : ℕ) (f g : Function) → IsFunctionNamed name inputs f → IsFunctionNamed name inputs g → f ≡ g
one_named name inputs f g is also =
    let number : is.number ≡ also.number = one_place inputs name is.number also.number is.named also.named in
    let table : f.table ≡ g.table = is.values ∙ ap (table_of inputs) number ∙ sym also.values in
    ap (λ n. made n f.table) (is.of_inputs ∙ sym also.of_inputs) ∙ ap (made g.inputs) table
  where
    made : ℕ → List Bool → Function
    made inputs table = record { inputs = inputs; table = table }
