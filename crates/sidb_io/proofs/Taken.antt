-- Giving and taking in pieces is giving and taking at once.
use Rattle.std.proofs.Common.{◌∙◌, sym, ap, refl, ℕ, ◌+◌, List, [], ◌++◌, take, drop, append_assoc, Option, None, Some}
use Rattle.std.proofs.Math.Seq.{take-add}
use Rattle.std.proofs.lemmas.List.{append-nil}
use Rattle.std.specs.Io.KnownBytes.{prepend_known, append_known}
use Rattle.sidb_io.specs.Outside.{Gave, Took}

pub took_none : (old : Option (List ℕ)) → Took old [] old
took_none None = refl
took_none (Some xs) = ap Some (sym (append-nil xs))

pub gave_none : (old : Option (List ℕ)) → Gave old [] old
gave_none None = refl
gave_none (Some xs) = refl

-- one more piece
pub took_more : (old mid new : Option (List ℕ)) (bytes : List ℕ) (at k : ℕ) → Took old (take at bytes) mid → Took mid (take k (drop at bytes)) new → Took old (take (at + k) bytes) new
took_more None mid new bytes at k a b = b ∙ ap (λ o. append_known o (take k (drop at bytes))) a
took_more (Some xs) mid new bytes at k a b =
    b ∙ ap (λ o. append_known o (take k (drop at bytes))) a ∙ ap Some (append_assoc xs (take at bytes) (take k (drop at bytes)) ∙ ap (λ t. xs ++ t) (sym (take-add at k bytes)))

pub gave_more : (old mid new : Option (List ℕ)) (front piece : List ℕ) → Gave old front mid → Gave mid piece new → Gave old (front ++ piece) new
gave_more old mid None front piece a b = a ∙ ap (prepend_known front) b
gave_more old mid (Some zs) front piece a b = a ∙ ap (prepend_known front) b ∙ ap Some (sym (append_assoc front piece zs))
