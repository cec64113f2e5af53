-- calls worked by hand: three bytes that are given and taken by two
use Rattle.std.proofs.Common.{◌≡◌, ℕ, List, [], ◌∷◌, refl, arith, Some, None, Ok, Err, inl, inr}
use Rattle.sidb_io.specs.Memory.{Supply, Store, supply_after, store_after, Refuses}
use Rattle.sidb_io.specs.Outside.{HasFault, FailsWith, GaveAll, Fills, IsCountAfter, Took, TookFront, TakesFrom, WritesFront, next_count, faults_after, last_count}
use Rattle.sidb_io.specs.Whole.{IsCountAfterAll}
use Rattle.sidb_io.specs.declared.read_whole.ReadAllFault.TheVariants.{ReadFault, TooLong}

abbrev pub three : List ℕ
three = 1 ∷ 2 ∷ 3 ∷ []

abbrev pub buffer : List ℕ
buffer = 9 ∷ 9 ∷ []

abbrev pub filled : List ℕ
filled = 1 ∷ 2 ∷ []

-- two of the three bytes fill a buffer of two
fills_two : Fills (Some three) (Some (3 ∷ [])) buffer filled 2
fills_two = record { within = omega arith; gave = refl; rest = refl; end = λ none. absurd (omega arith) }

-- nothing left, nothing given
finds_the_end : Fills (Some []) (Some []) buffer buffer 0
finds_the_end = record { within = omega arith; gave = refl; rest = refl; end = λ none room. refl }

gives_all : GaveAll (Some three) three (Some [])
gives_all = record { gave = refl; end = refl }

takes_two : TakesFrom (Some (7 ∷ [])) (Some (7 ∷ 1 ∷ 2 ∷ [])) three 2
takes_two = record { within = omega arith; took = refl; some = λ some. omega arith }

takes_front : TookFront (Some []) three (Some filled)
takes_front = (2, refl)

-- what is not told before is not told after
untold : Took None three None
untold = refl

counts_one : HasFault 0 1
counts_one = inl (omega arith)

stands_at_its_last : HasFault last_count last_count
stands_at_its_last = inr refl

fails_once : FailsWith (Some three) (Some three) 4 5
fails_once = record { counted_it = inl (omega arith); unchanged = refl }

counted_stops : next_count last_count ≡ last_count
counted_stops = refl

-- a source of three bytes that gives two a call and fails at call 1
abbrev pub supply : Supply
supply = record { left = three; piece = 2; fails = 1 ∷ []; calls = 0; faults = 0 }

gives_two : supply_after {E = ℕ} supply (Ok 2) ≡ record { left = 3 ∷ []; piece = 2; fails = 1 ∷ []; calls = 1; faults = 0 }
gives_two = refl

fails_then : supply_after {E = ℕ} (record supply { calls = 1 }) (Err 0) ≡ record { left = three; piece = 2; fails = 1 ∷ []; calls = 2; faults = 1 }
fails_then = refl

-- a sink with room for three bytes, of which two are taken
abbrev pub store : Store
store = record { written = filled; capacity = 3; piece = 2; fails = 4 ∷ []; calls = 1; faults = 0 }

takes_one_more : store_after {E = ℕ} store (3 ∷ 4 ∷ []) (Ok 1) ≡ record { written = three; capacity = 3; piece = 2; fails = 4 ∷ []; calls = 2; faults = 0 }
takes_one_more = refl

then_full : Refuses (record store { written = three; calls = 2 })
then_full = inr (omega arith)

listed_call : Refuses (record store { calls = 4 })
listed_call = inl (0, omega arith, refl)

real_count : faults_after {A = ℕ} {E = ℕ} 3 (Err 0) ≡ 4
real_count = refl

quiet_call : IsCountAfter {A = ℕ} {E = ℕ} 3 3 (Ok 1)
quiet_call = refl

failed_call : IsCountAfter {A = ℕ} {E = ℕ} 3 4 (Err 0)
failed_call = omega arith

too_long_is_quiet : IsCountAfterAll {A = ℕ} 3 3 (Err TooLong)
too_long_is_quiet = refl

failed_input : IsCountAfterAll {A = ℕ} 3 4 (Err ReadFault)
failed_input = omega arith

-- a writer that took two of three bytes
writes_two : WritesFront {E = ℕ} (Some (7 ∷ [])) (Some (7 ∷ 1 ∷ 2 ∷ [])) (Ok 2) three
writes_two = refl

-- and whose flush failed then
fails_after_two : WritesFront {E = ℕ} (Some (7 ∷ [])) (Some (7 ∷ 1 ∷ 2 ∷ [])) (Err 0) three
fails_after_two = (2, refl)
