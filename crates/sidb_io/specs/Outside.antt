-- What calls of a source and of a sink do. What is left and what was written are known or not told.
use Rattle.std.specs.Prelude.{◌≡◌, ◌⊎◌, ℕ, ◌+◌, ◌-◌, ◌^◌, ◌<◌, ◌≤◌, List, length, take, drop, min, Option, Result, Ok, Err}
use Rattle.std.specs.Io.KnownBytes.{prepend_known, append_known, Appends, IsAtEnd}

-- the last value of a count
abbrev pub last_count : ℕ
last_count = 2 ^ 64 - 1

-- the count after one more, which stops at its last value
abbrev pub next_count : ℕ → ℕ
next_count n = min (n + 1) last_count

-- a fault was counted, or the count stands at its last value
abbrev pub HasFault : ℕ → ℕ → Type 0
HasFault old new = (old < new) ⊎ (new ≡ last_count)

-- the count of faults after a call that answered this
abbrev pub faults_after : {A E : Type 0} → ℕ → Result A E → ℕ
faults_after faults (Ok a) = faults
faults_after faults (Err e) = next_count faults

-- the count of faults after a call that answered this: only a failed call may raise it
abbrev pub IsCountAfter : {A E : Type 0} → ℕ → ℕ → Result A E → Type 0
IsCountAfter old new (Ok a) = new ≡ old
IsCountAfter old new (Err e) = old ≤ new

-- a call failed: it was counted, and the content is as before
pub record FailsWith (old new : Option (List ℕ)) (old_faults new_faults : ℕ) : Type 0 where
  pub counted_it : HasFault old_faults new_faults
  pub unchanged : new ≡ old

-- a source gave these bytes: what was left is the bytes and then what is left now
abbrev pub Gave : Option (List ℕ) → List ℕ → Option (List ℕ) → Type 0
Gave old bytes new = old ≡ prepend_known bytes new

-- a source gave all that was left
pub record GaveAll (old : Option (List ℕ)) (bytes : List ℕ) (new : Option (List ℕ)) : Type 0 where
  pub gave : Gave old bytes new
  pub end : IsAtEnd new

-- a source gave k bytes into the front of a buffer, none only at its end or without room
pub record Fills (old new : Option (List ℕ)) (before after : List ℕ) (k : ℕ) : Type 0 where
  pub within : k ≤ length before
  pub gave : Gave old (take k after) new
  pub rest : drop k after ≡ drop k before
  pub end : k ≡ 0 → 0 < length before → IsAtEnd new

-- a sink took these bytes: what is written now is what was written and then the bytes
abbrev pub Took : Option (List ℕ) → List ℕ → Option (List ℕ) → Type 0
Took old bytes new = new ≡ append_known old bytes

-- a sink took a front of these bytes
abbrev pub TookFront : Option (List ℕ) → List ℕ → Option (List ℕ) → Type 0
TookFront old bytes new = (n : ℕ) × Took old (take n bytes) new

-- a sink took the first k bytes of a piece, at least one where there is one
pub record TakesFrom (old new : Option (List ℕ)) (piece : List ℕ) (k : ℕ) : Type 0 where
  pub within : k ≤ length piece
  pub took : Took old (take k piece) new
  pub some : 0 < length piece → 0 < k

-- a writer took a front of a piece: that many bytes after an answer, some number after a failure
abbrev pub WritesFront : {E : Type 0} → Option (List ℕ) → Option (List ℕ) → Result ℕ E → List ℕ → Type 0
WritesFront old new (Ok n) piece = Appends old new (take n piece)
WritesFront old new (Err e) piece = (n : ℕ) × Appends old new (take n piece)
