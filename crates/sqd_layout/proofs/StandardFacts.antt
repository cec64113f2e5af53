-- texts worked by hand, their dots, layouts and faults
use Rattle.std.proofs.Common.{refl, ℕ, [], ◌∷◌, inl, true, arith}
use Rattle.std.specs.Prelude.{codes}
use Rattle.std.proofs.lemmas.List.Elements.{All-nil, All-cons}
use Rattle.sidb_layout.specs.Site.{IsInRange, IsFixInRange}
use Rattle.sidb_layout.specs.Lattice.{silicon}
use Rattle.sidb_layout.specs.Layout.{arrangement_of}
use Rattle.sqd_marks.specs.Marks.{Tag, empty}
use Rattle.sqd_nesting.specs.Texts.{Item, at_first, IsWhole}
use Rattle.sqd_elements.specs.Elements.{element_at}
use Rattle.sqd_dots.specs.Drawings.{IsDrawing}
use Rattle.sqd_dots.specs.declared.drawing.Dot.{Dot}
use Rattle.sqd_scan.specs.declared.fault.SqdFault.TheVariants.{NotSiqad, Duplicate}
use Rattle.sites_layout.proofs.StandardFacts.{at_zero, no_sites}
use Rattle.sqd_layout.specs.DotsFaults.{IsDotsFault, IsSqdText, IsSqdFault}

-- two dots with one site
abbrev dot : ℕ → Dot
dot at = record { at = at; site = at_zero }

dots_twice : IsDotsFault (dot 7 ∷ dot 51 ∷ []) (Duplicate 7 51)
dots_twice =
    let in_range : IsInRange at_zero = record { column = omega arith; row = omega arith; atom = inl refl } in (
      0,
      refl,
      (
        1,
        refl,
        (
          record {
            in_range = record { all_sites = All-cons IsInRange at_zero (at_zero ∷ []) in_range (All-cons IsInRange at_zero [] in_range (All-nil IsInRange)); all_fixes = All-nil IsFixInRange };
            few_sites = omega arith;
            few_fixes = omega arith;
          },
          record {
            within = omega arith;
            earliest = record { before = omega arith; related = refl; earliest = λ h before. absurd (omega arith) };
            first = λ h k before within. absurd (omega arith);
          },
        ),
      ),
    )

-- `<siqad/>` draws the layout without sites
abbrev root : Tag
root = record { name = codes "siqad"; attributes = []; after = [] }

abbrev only_root : Item
only_root = record { text = []; mark = empty root }

whole : IsWhole (codes "<siqad/>") (only_root ∷ [])
whole = record {
  nest = record { opened = []; rooted = true };
  rest = [];
  begins = record {
    is = refl;
    valid = (record { text = tt; mark = record { name = (refl, (refl, (refl, (refl, (refl, tt))))); attributes = tt; after = tt } }, tt);
    nested = (record { opened = []; rooted = true }, record { quiet = λ outside. tt; turns = (λ outside. refl, record { opened = refl; rooted = refl }) }, refl);
  };
  closed = refl;
  blank = tt;
}

draws_nothing : IsDrawing (codes "<siqad/>") [] 0
draws_nothing = record {
  elements = element_at 0 [] root [] ∷ [];
  read = record { items = only_root ∷ []; whole = whole; are = refl };
  siqad = refl;
  each_has_a_site = refl;
  drawn = refl;
  counted = refl;
}

drawn_layout : IsSqdText (codes "<siqad/>") (arrangement_of silicon [] []) 0
drawn_layout = record { dots = []; drawing = draws_nothing; made = no_sites }

-- a text of no bytes has no root
empty_whole : IsWhole [] []
empty_whole = record { nest = at_first; rest = []; begins = record { is = refl; valid = tt; nested = refl }; closed = refl; blank = tt }

no_root : IsSqdFault [] NotSiqad
no_root = inl (record { elements = []; read = record { items = []; whole = empty_whole; are = refl }; siqad = refl })
