use Rattle.std.proofs.Common.{subst}
use Rattle.sidb_layout.specs.Refusal.{IsMadeOf}
use Rattle.sites_layout.specs.SitesLines.{sites_lines_of, sites_in_lines, fixes_of}
use Rattle.sites_layout.proofs.OneReading.{one_lattice}
use Rattle.sites_layout.proofs.laws.one_layout.Goals as goal

pub returns : goal.returns
returns c = λ text p q h k.
    let ls = sites_lines_of text in
    let same = one_lattice ls k.layout.lattice h.layout.lattice k.layout.of_lines h.layout.of_lines in
    c.one_layout.ensures h.layout.lattice (sites_in_lines ls) (fixes_of ls) p q h.layout.made
    (subst (λ v. IsMadeOf v (sites_in_lines ls) (fixes_of ls) q) same k.layout.made)
