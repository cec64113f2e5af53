-- what does not depend on the levels of a problem, and what the tests at one level say of another
use Rattle.std.proofs.Common.{◌≡◌, ℕ, List, ℤ, pos, ◌-ℤ◌, ◌*ℤ◌, refl}
use Rattle.charge_model.specs.declared.charge.Charge.{Charge}
use Rattle.charge_model.specs.declared.charge.Test.TheVariants.{AboveMinus, AbovePlus, BelowMinus, BelowPlus}
use Rattle.charge_model.specs.Problem.{Problem, Table, IsTable, class_of, near_class_of}
use Rattle.charge_model.specs.Rules.{energy, potential_at, test_slack, hop_slack, IsChargeList}
use Rattle.charge_model.specs.Prefixes.{least_fixed, least_potential}
use Rattle.level_range_laws.specs.Levels.{at_level, gap_of}

pub energy_at : (p : Problem) (m : ℤ) (t : Table) (c : List Charge) → energy (at_level p m) t c ≡ energy p t c
unfolding energy class_of near_class_of
energy_at p m t c = refl

pub potential_at_level : (p : Problem) (m : ℤ) (t : Table) (c : List Charge) (k : ℕ) → potential_at (at_level p m) t c k ≡ potential_at p t c k
unfolding potential_at class_of near_class_of
potential_at_level p m t c k = refl

pub least_at : (p : Problem) (m : ℤ) (q : List Charge) (k : ℕ) → least_potential (at_level p m) q k ≡ least_potential p q k
unfolding least_potential least_fixed class_of near_class_of
least_at p m q k = refl

pub table_at : (p : Problem) (m : ℤ) (t : Table) → IsTable p t → IsTable (at_level p m) t
table_at p m t is = record { positive = is.positive; above = is.above; below = is.below }

pub table_of : (p : Problem) (m : ℤ) (t : Table) → IsTable (at_level p m) t → IsTable p t
table_of p m t is = record { positive = is.positive; above = is.above; below = is.below }

pub list_at : (p : Problem) (m : ℤ) (c : List Charge) → IsChargeList p c → IsChargeList (at_level p m) c
list_at p m c is = record { whole = is.whole; of_base = is.of_base }

pub list_of : (p : Problem) (m : ℤ) (c : List Charge) → IsChargeList (at_level p m) c → IsChargeList p c
list_of p m c is = record { whole = is.whole; of_base = is.of_base }

-- the slack of a test at a level, by the potential
pub slack_above_minus : (p : Problem) (m : ℤ) (c : List Charge) (i : ℕ) (t : Table) → test_slack (at_level p m) c i AboveMinus t ≡ potential_at p t c i -ℤ pos t.scale *ℤ m
unfolding potential_at class_of near_class_of
slack_above_minus p m c i t = refl

pub slack_above_plus : (p : Problem) (m : ℤ) (c : List Charge) (i : ℕ) (t : Table) → test_slack (at_level p m) c i AbovePlus t ≡ potential_at p t c i -ℤ pos t.scale *ℤ (m -ℤ gap_of p)
unfolding potential_at class_of near_class_of
slack_above_plus p m c i t = refl

pub slack_below_minus : (p : Problem) (m : ℤ) (c : List Charge) (i : ℕ) (t : Table) → test_slack (at_level p m) c i BelowMinus t ≡ pos t.scale *ℤ m -ℤ potential_at p t c i
unfolding potential_at class_of near_class_of
slack_below_minus p m c i t = refl

pub slack_below_plus : (p : Problem) (m : ℤ) (c : List Charge) (i : ℕ) (t : Table) → test_slack (at_level p m) c i BelowPlus t ≡ pos t.scale *ℤ (m -ℤ gap_of p) -ℤ potential_at p t c i
unfolding potential_at class_of near_class_of
slack_below_plus p m c i t = refl

pub hop_slack_at : (p : Problem) (m : ℤ) (c : List Charge) (i j : ℕ) (t : Table) → hop_slack (at_level p m) c i j t ≡ hop_slack p c i j t
unfolding energy class_of near_class_of
hop_slack_at p m c i j t = refl
