-- sites without those at some places
use Rattle.std.specs.Prelude.{ℕ, ◌+◌, ◌==◌, List, [], ◌∷◌, if◌then◌else◌}
use Rattle.std.specs.List.{list_any}
use Rattle.sidb_layout.specs.declared.site.Site.{Site}

-- the sites whose places, counted from k, are not among those that are gone
abbrev pub kept_from : ℕ → List ℕ → List Site → List Site
kept_from k gone [] = []
kept_from k gone (s ∷ sites) = (if list_any (λ g. g == k) gone
    then kept_from (k + 1) gone sites
    else s ∷ kept_from (k + 1) gone sites)

-- the sites of a list but for those at the places that are gone
abbrev pub sites_but : List ℕ → List Site → List Site
sites_but gone sites = kept_from 0 gone sites
