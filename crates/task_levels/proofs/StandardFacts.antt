-- answers worked by hand
use Rattle.std.proofs.Common.{◌≡◌, ℕ, pos, refl, inl, inr, List, [], ◌∷◌, ◌++◌, None, codes, false, unsigned_abs}
use Rattle.std.specs.Fmt.{digits}
use Rattle.charge_model.specs.declared.mark.Mark.TheVariants.{Certain}
use Rattle.charge_model.specs.declared.charge.Charge.TheVariants.{Neg}
use Rattle.charge_model.specs.Problem.{Problem}
use Rattle.charge_model.specs.GroundList.{Entry, lists_of}
use Rattle.command_words.specs.declared.settings.Settings.{Settings}
use Rattle.ground_state.specs.Window.{IsWindowListedWithin, IsWindowOverLimit}
use Rattle.ground_report.specs.declared.about.About.{About}
use Rattle.run_answer.specs.declared.status.Status.TheVariants.{Answered, Budget}
use Rattle.occupation.specs.declared.share.Share.{Share}
use Rattle.occupation.specs.Shares.{AreRoundedShares}
use Rattle.sidb_units.specs.Decimal.{last_digits}
use Rattle.task_levels.specs.OccupationAnswer.{IsOccupationAnswer}
use Rattle.task_levels.specs.WindowAnswer.{IsWindowListAnswer}

-- a line and its end
abbrev pub line : List ℕ → List ℕ → List ℕ
line words rest = words ++ 10 ∷ rest

fault_budget : (s : Settings) (about : About) (p : Problem) → s.search.limit ≡ 9840
    → IsWindowOverLimit p s.levels.window.width s.search.limit
    → IsWindowListAnswer s about p Budget (line (codes "fault budget 9840") [])
unfolding digits
fault_budget s about p limit over = inr (inl (over, (refl, rw limit refl)))

-- one negative site within a window of 20 mV
abbrev pub entry : Entry
entry = record { charges = Neg ∷ []; mark = Certain }

abbrev pub no_layout : About
no_layout = record { layout = None; skipped = 0 }

one_site : (s : Settings) (p : Problem) → p.sites ≡ 1 → s.levels.window.width ≡ pos 20000000000 → s.report.energies ≡ false
    → IsWindowListedWithin p s.levels.window.width s.search.limit (entry ∷ [])
    → IsWindowListAnswer s no_layout p Answered
    (line (codes "sidb-window 1") (line (codes "window 20000000000") (line (codes "sites 1") (line (codes "skipped 0") (line (codes "entries 1") (line (codes "- certain") (line (codes "end") [])))))))
unfolding digits
one_site s p one width plain list = inl (refl, record { entries = entry ∷ []; list = list; prints = rw (plain, one, width) refl })

-- the same site alone, with the whole
abbrev pub whole : Share
whole = record { lo = pos 1000000000; hi = pos 1000000000 }

one_share : (s : Settings) (p : Problem) → p.sites ≡ 1 → s.levels.window.width ≡ pos 0 → s.levels.kt ≡ pos 25000000000
    → IsWindowListedWithin p s.levels.window.width s.search.limit (entry ∷ [])
    → AreRoundedShares p (unsigned_abs s.levels.kt) (lists_of (entry ∷ [])) (whole ∷ [])
    → IsOccupationAnswer s p Answered
    (line (codes "sidb-occupation 1") (line (codes "window 0") (line (codes "kt 25000000000") (line (codes "sites 1") (line (codes "entries 1") (line (codes "- 1.000000000 1.000000000") (line (codes "end") [])))))))
unfolding digits last_digits
one_share s p one width kt list shares = inl (refl, record { entries = entry ∷ []; list = list; shares = whole ∷ []; by_rule = shares; prints = rw (one, width, kt) refl })
