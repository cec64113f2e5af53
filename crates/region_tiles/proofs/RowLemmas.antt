-- each side of permittivity with each of screening length
use Rattle.std.proofs.Common.{◌≡◌, ℕ, zero, suc, ◌*◌, ◌⊎◌, inl, inr, List, [], ◌∷◌, map, sym, ap, subst, arith}
use Rattle.std.specs.Prelude.{All, AllPairs, Contains, sum_by}
use Rattle.std.proofs.lemmas.List.Sums.{sum_by-append, sum_by-cons}
use Rattle.std.proofs.lemmas.List.Kept.{AllPairs-cons}
use Rattle.std.proofs.lemmas.List.Elements.{All-append, All-head, All-map, All-nil, All-tail, All-weaker, Contains-append_left, Contains-append_right}
use Rattle.region_tiles.specs.declared.sides.Side.{Side}
use Rattle.region_tiles.specs.Sides.{length_of}
use Rattle.region_tiles.specs.Rectangles.{Sides, rows_of, sides_of}
use Rattle.region_tiles.proofs.ListLemmas.{pairs_append}
use Rattle.region_tiles.proofs.SideLemmas.{IsBefore}

-- something that holds of each two
pub rows_all : (Q : Sides → Type 0) (es ls : List Side) → All (λ e. All (λ l. Q (sides_of e l)) ls) es → All Q (rows_of es ls)
rows_all Q [] ls all = All-nil Q
rows_all Q (e ∷ es) ls all =
    All-append Q (map (sides_of e) ls) (rows_of es ls)
    (All-map Q (sides_of e) ls (All-head (λ e. All (λ l. Q (sides_of e l)) ls) e es all))
    (rows_all Q es ls (All-tail (λ e. All (λ l. Q (sides_of e l)) ls) e es all))

contains_map : {X Y : Type 0} (f : X → Y) (xs : List X) (x : X) → Contains xs x → Contains (map f xs) (f x)
contains_map f [] x (k, within, is) = absurd (omega (arith, within))
contains_map f (y ∷ ys) x (zero, within, is) = (0, omega arith, ap f is)
contains_map f (y ∷ ys) x (suc k, within, is) =
    let (j, also, at) = contains_map f ys x (k, omega (arith, within), is) in
    (suc j, omega (arith, also), at)

pub rows_contain : (es ls : List Side) (e l : Side) → Contains es e → Contains ls l → Contains (rows_of es ls) (sides_of e l)
rows_contain [] ls e l (k, within, is) member = absurd (omega (arith, within))
rows_contain (f ∷ es) ls e l (zero, within, is) member =
    Contains-append_left (map (sides_of f) ls) (rows_of es ls) (sides_of e l) (subst (λ g. Contains (map (sides_of g) ls) (sides_of e l)) (sym is) (contains_map (sides_of e) ls l member))
rows_contain (f ∷ es) ls e l (suc k, within, is) member =
    Contains-append_right (map (sides_of f) ls) (rows_of es ls) (sides_of e l) (rows_contain es ls e l (k, omega (arith, within), is) member)

-- sides of rectangles that have but borders in common
abbrev pub AreBeside : Sides → Sides → Type 0
AreBeside x y = IsBefore x.eps y.eps ⊎ IsBefore x.lam y.lam

row_apart : (e : Side) (ls : List Side) → AllPairs IsBefore ls → AllPairs AreBeside (map (sides_of e) ls)
row_apart e [] before = λ i j d less within. absurd (omega (arith, within))
row_apart e (l ∷ ls) before =
    let first : All (IsBefore l) ls = λ k d within. before zero (suc k) d (omega arith) (omega (arith, within)) in
    AllPairs-cons AreBeside (sides_of e l) (map (sides_of e) ls)
    (All-map (AreBeside (sides_of e l)) (sides_of e) ls (All-weaker (IsBefore l) (λ m. AreBeside (sides_of e l) (sides_of e m)) (λ m is. inr is) ls first))
    (row_apart e ls (λ i j d less within. before (suc i) (suc j) d (omega (arith, less)) (omega (arith, within))))

pub every : {X : Type 0} (P : X → Type 0) → ((x : X) → P x) → (xs : List X) → All P xs
every P holds xs = λ k d within. holds _

pub rows_apart : (es ls : List Side) → AllPairs IsBefore es → AllPairs IsBefore ls → AllPairs AreBeside (rows_of es ls)
rows_apart [] ls eps lam = λ i j d less within. absurd (omega (arith, within))
rows_apart (e ∷ es) ls eps lam =
    let first : All (IsBefore e) es = λ k d within. eps zero (suc k) d (omega arith) (omega (arith, within)) in
    let across : (l : Side) → All (AreBeside (sides_of e l)) (rows_of es ls) =
    λ l. rows_all (AreBeside (sides_of e l)) es ls (All-weaker (IsBefore e) (λ f. All (λ m. AreBeside (sides_of e l) (sides_of f m)) ls) (λ f is. every (λ m. AreBeside (sides_of e l) (sides_of f m)) (λ m. inl is) ls) es first) in
    pairs_append AreBeside (map (sides_of e) ls) (rows_of es ls) (row_apart e ls lam)
    (rows_apart es ls (λ i j d less within. eps (suc i) (suc j) d (omega (arith, less)) (omega (arith, within))) lam)
    (All-map (λ x. All (AreBeside x) (rows_of es ls)) (sides_of e) ls (every (λ l. All (AreBeside (sides_of e l)) (rows_of es ls)) across ls))

-- areas
abbrev pub size_of : Sides → ℕ
size_of s = length_of s.eps * length_of s.lam

row_size : (e : Side) (ls : List Side) → sum_by size_of (map (sides_of e) ls) ≡ length_of e * sum_by length_of ls
row_size e [] = omega arith
row_size e (l ∷ ls) =
    let rest = row_size e ls in
    let one = sum_by-cons size_of (sides_of e l) (map (sides_of e) ls) in
    let all = ap (λ (n : ℕ). length_of e * n) (sum_by-cons length_of l ls) in
    omega (arith, rest, one, all)

pub rows_size : (es ls : List Side) → sum_by size_of (rows_of es ls) ≡ sum_by length_of es * sum_by length_of ls
rows_size [] ls = none (sum_by length_of ls)
  where
    none : (n : ℕ) → 0 ≡ 0 * n
    none n = omega arith
rows_size (e ∷ es) ls =
    let rest = rows_size es ls in
    let one = row_size e ls in
    let both = sum_by-append size_of (map (sides_of e) ls) (rows_of es ls) in
    let all = ap (λ (n : ℕ). n * sum_by length_of ls) (sum_by-cons length_of e es) in
    omega (arith, rest, one, both, all)
