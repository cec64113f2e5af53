-- flags in the making
use Rattle.std.proofs.Common.{◌≡◌, ◌≢◌, ℕ, ◌+◌, ◌<◌, ◌≤◌, length, set, sym, subst, ◌∙◌, arith, ◌⊎◌, inl, inr, Bool, false, get_or}
use Rattle.std.proofs.lemmas.Bool.{cases_eq}
use Rattle.std.proofs.lemmas.List.{length-set, get_or-set_same, get_or-set_other}
use Rattle.charge_model.specs.Problem.{Problem}
use Rattle.charge_model.specs.Prefixes.{may_be_positive}
use Rattle.prefix_extremes.specs.declared.flags.Flags.{Flags}
use Rattle.prefix_extremes.specs.Flags.{flag_at, AreFlags}

-- flags of 64 places, those of the sites below k being written
pub record AreMade (p : Problem) (k : ℕ) (flags : Flags) : Type 0 where
  pub full : length flags.may ≡ 64
  pub written : (i : ℕ) → i < k → flag_at flags i ≡ may_be_positive p i

pub flags_more : (p : Problem) (k : ℕ) (flags : Flags) (b : Bool) → k < 64 → AreMade p k flags → b ≡ may_be_positive p k
    → AreMade p (k + 1) (record { may = set flags.may k b })
flags_more p k flags b l made is = record {
  full = length-set flags.may k b ∙ made.full;
  written = λ i h. by i h (cases_eq i k);
}
  where
    by : (i : ℕ) → i < k + 1 → (i ≡ k) ⊎ (i ≢ k) → get_or (set flags.may k b) i false ≡ may_be_positive p i
    by i h (inl same) = subst (λ j. get_or (set flags.may k b) j false ≡ may_be_positive p j) (sym same)
        (get_or-set_same flags.may k b false (omega (arith, l, made.full)) ∙ is)
    by i h (inr ne) = get_or-set_other flags.may k i b false ne ∙ made.written i (omega (arith, h, ne))

pub flags_whole : (p : Problem) (k n : ℕ) (flags : Flags) → n ≤ k → AreMade p k flags → AreFlags p n flags
flags_whole p k n flags h made = record { each = λ i l. made.written i (omega (arith, l, h)) }
