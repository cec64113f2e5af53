-- Steps of the scanner over some bytes.
use Rattle.std.proofs.Common.{◌≡◌, ◌∙◌, sym, ap, refl, ℕ, List, [], ◌∷◌, ◌++◌, Option, None, Some, Bool, true, false, cond, ◌⊎◌, inl, inr, ◌&&◌, ◌||◌, not}
use Rattle.sqd_marks.specs.Bytes.{is_in_name, Each, IsName}
use Rattle.sqd_scan.specs.Scanning.{step}
use Rattle.sqd_scan.specs.declared.stage.Stage.{Stage}
use Rattle.sqd_marks.proofs.ByteFacts.{each_more}

-- the stage after some bytes
abbrev pub then : Option Stage → List ℕ → Option Stage
then None bs = None
then (Some stage) [] = Some stage
then (Some stage) (b ∷ bs) = then (step stage b) bs

abbrev pub run : Stage → List ℕ → Option Stage
run stage bs = then (Some stage) bs

pub cases : (t : Bool) (x y : Option Stage) (s : List ℕ) (r : Option Stage) → then (cond t x y) s ≡ r → ((t ≡ true) × (then x s ≡ r)) ⊎ ((t ≡ false) × (then y s ≡ r))
cases true x y s r e = inl (refl, e)
cases false x y s r e = inr (refl, e)

pub or_false : (a b : Bool) → (a || b) ≡ false → (a ≡ false) × (b ≡ false)
or_false true b e = absurd (cc)
or_false false b e = (refl, e)

pub and_true : (a b : Bool) → (a && b) ≡ true → (a ≡ true) × (b ≡ true)
and_true true b e = (refl, e)
and_true false b e = absurd (cc)

pub not_true : (a : Bool) → not a ≡ true → a ≡ false
not_true true e = absurd (cc)
not_true false e = refl

-- the scanner over two pieces
pub run_append : (o : Option Stage) (a b : List ℕ) → then o (a ++ b) ≡ then (then o a) b
run_append None a b = refl
run_append (Some stage) [] b = refl
run_append (Some stage) (x ∷ a) b = run_append (step stage x) a b

pub go : (stage next : Stage) (b : ℕ) (more : List ℕ) → step stage b ≡ Some next → run stage (b ∷ more) ≡ run next more
go stage next b more e = ap (λ o. then o more) e

-- bytes that stay in a stage
pub run_each : (p : ℕ → Bool) (stage : Stage) → ((b : ℕ) → p b ≡ true → step stage b ≡ Some stage) → (x more : List ℕ) → Each p x → run stage (x ++ more) ≡ run stage more
run_each p stage stays [] more h = refl
run_each p stage stays (b ∷ x) more h = go stage stage b (x ++ more) (stays b h.0) ∙ run_each p stage stays x more h.1

pub name_more : (n : List ℕ) (b : ℕ) → IsName n → is_in_name b ≡ true → IsName (n ++ b ∷ [])
name_more [] b h e = absurd h
name_more (x ∷ n) b h e = (h.0, each_more is_in_name n b h.1 e)

-- the same, backwards
pub back : (stage next : Stage) (b : ℕ) (s : List ℕ) (r : Option Stage) → step stage b ≡ Some next → run stage (b ∷ s) ≡ r → run next s ≡ r
back stage next b s r e h = sym (go stage next b s e) ∙ h

pub dead : (stage next : Stage) (b : ℕ) (s : List ℕ) → step stage b ≡ None → run stage (b ∷ s) ≡ Some next → ⊥
dead stage next b s e h =
    let none : None ≡ Some next = sym (ap (λ o. then o s) e) ∙ h in
    cc none
