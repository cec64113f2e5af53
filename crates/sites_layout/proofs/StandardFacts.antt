-- texts worked by hand, their lines, layouts and faults
use Rattle.std.proofs.Common.{◌≡◌, refl, ℕ, pos, negsuc, List, [], ◌∷◌, ◌++◌, Option, None, Some, inl, arith}
use Rattle.std.specs.Prelude.{codes, IsSome}
use Rattle.std.proofs.lemmas.List.Elements.{All-nil, All-cons}
use Rattle.std.proofs.lemmas.List.Sorted.{IsPermutation-refl}
use Rattle.sidb_layout.specs.declared.site.Site.{Site}
use Rattle.sidb_layout.specs.Site.{IsInRange, IsFixInRange}
use Rattle.sidb_layout.specs.Lattice.{silicon}
use Rattle.sidb_layout.specs.Layout.{arrangement_of}
use Rattle.sidb_layout.specs.Refusal.{IsMadeOf}
use Rattle.sites_layout.specs.declared.line.SitesLine.{SitesLine}
use Rattle.sites_layout.specs.declared.line.SitesLine.TheVariants.{Empty, Place, Charge}
use Rattle.sqd_scan.specs.declared.fault.SqdFault.TheVariants.{BadLine, Duplicate}
use Rattle.sites_layout.specs.SitesLines.{line_in, sites_lines_of}
use Rattle.sites_layout.specs.SitesFaults.{AreFineSitesLines, IsLineInRange, IsSitesText, IsSitesFault}
use Rattle.sites_layout.proofs.FineLines.{bad_none}

-- lines, also behind a carriage return, a tab and spaces
abbrev pub at_zero : Site
at_zero = record { n = pos 0; m = pos 0; l = pos 0 }

a_site : line_in (9 ∷ codes "0  0 0 " ++ 13 ∷ []) ≡ Some (Place at_zero)
a_site = refl

a_charge : line_in (codes "fix 0 0 0 -3") ≡ Some (Charge (record { site = at_zero; charge = negsuc 2 }))
a_charge = refl

a_comment : line_in (codes " #0 0") ≡ Some Empty
a_comment = refl

a_blank : line_in (32 ∷ 9 ∷ 13 ∷ []) ≡ Some Empty
a_blank = refl

two_lines : sites_lines_of (codes "0 0 0" ++ 10 ∷ codes "#") ≡ Place at_zero ∷ Empty ∷ []
two_lines = refl

-- the empty text is the text of the layout without sites
one_blank : AreFineSitesLines (Some Empty ∷ [])
one_blank = record { each = All-cons (λ line. IsSome line) (Some Empty) [] refl (All-nil (λ line. IsSome line)); one_lattice = omega arith }

pub no_sites : IsMadeOf silicon [] [] (arrangement_of silicon [] [])
no_sites = record {
  layout = record {
    few_sites = omega arith;
    few_fixes = omega arith;
    sites_in_range = All-nil IsInRange;
    fixes_in_range = All-nil IsFixInRange;
    sites_in_order = λ i j d before within. absurd (omega arith);
    fixes_in_order = λ i j d before within. absurd (omega arith);
    no_fix_on_a_site = λ s c h. absurd (omega (arith, c.1));
    apart = λ a b c h ne. absurd (omega (arith, c.1));
  };
  on_lattice = refl;
  same_sites = IsPermutation-refl [];
  same_fixes = IsPermutation-refl [];
}

empty_text : IsSitesText [] (arrangement_of silicon [] [])
empty_text = record {
  fine = one_blank;
  layout = record {
    lattice = silicon;
    of_lines = refl;
    clear = record {
      few = record {
        in_range = All-cons IsLineInRange Empty [] tt (All-nil IsLineInRange);
        few_sites = omega arith;
        few_fixes = omega arith;
      };
      distinct = λ h k before within. absurd (omega arith);
      apart = λ h k before within. absurd (omega arith);
    };
    made = no_sites;
  };
}

-- two numbers are no line
two_numbers : IsSitesFault (codes "0 0") (BadLine 1)
two_numbers = (
  0,
  refl,
  record {
    before = record { each = All-nil (λ line. IsSome line); one_lattice = omega arith };
    here = bad_none [] None refl;
  },
)

-- a place on two lines
abbrev twice : List ℕ
twice = codes "0 0 0" ++ 10 ∷ codes "0 0 0"

here_twice : IsSitesFault twice (Duplicate 1 2)
here_twice =
    let in_range : IsInRange at_zero = record { column = omega arith; row = omega arith; atom = inl refl } in
    let some = λ (line : Option SitesLine). IsSome line in (
      record {
        each = All-cons some (Some (Place at_zero)) (Some (Place at_zero) ∷ []) refl (All-cons some (Some (Place at_zero)) [] refl (All-nil some));
        one_lattice = omega arith;
      },
      (
        record {
          in_range = All-cons IsLineInRange (Place at_zero) (Place at_zero ∷ []) in_range (All-cons IsLineInRange (Place at_zero) [] in_range (All-nil IsLineInRange));
          few_sites = omega arith;
          few_fixes = omega arith;
        },
        (
          0,
          refl,
          (
            1,
            refl,
            record {
              within = omega arith;
              earliest = record { before = omega arith; related = refl; earliest = λ h before. absurd (omega arith) };
              first = λ h k before within. absurd (omega arith);
            },
          ),
        ),
      ),
    )
