-- what is no lattice of silicon, no version, no report of a problem and no energy
use Rattle.std.proofs.Common.{◌≡◌, [], ◌∷◌, true, Some}
use Rattle.charge_model.specs.declared.mark.Mark.TheVariants.{Certain}
use Rattle.sidb_layout.specs.Lattice.{silicon}
use Rattle.sidb_layout.specs.Layout.{arrangement_of}
use Rattle.ground_report.specs.Subject.{is_silicon, version_of, IsAboutProblem}
use Rattle.ground_report.specs.Energies.{AreEnergies}
use Rattle.ground_report.proofs.StandardFacts.{closer, at_zero, fixed, empty, zero_span}

closer_is_not_silicon : is_silicon closer ≡ true → ⊥
closer_is_not_silicon is = absurd (cc)

no_version_1 : version_of (Some (arrangement_of silicon [] (fixed ∷ []))) ≡ 1 → ⊥
no_version_1 is = absurd (cc)

more_sites : IsAboutProblem (record { layout = Some (arrangement_of silicon (at_zero ∷ []) []); skipped = 0 }) empty → ⊥
more_sites is = absurd (cc)

no_span : AreEnergies empty (record { charges = []; mark = Certain } ∷ []) [] → ⊥
no_span is = elim is [ ]

too_many_spans : AreEnergies empty [] (zero_span ∷ []) → ⊥
too_many_spans is = elim is [ ]
