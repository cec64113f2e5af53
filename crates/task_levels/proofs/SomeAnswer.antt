-- each problem has an answer
use Rattle.std.proofs.Common.{refl, ℕ, ◌<◌, ◌≤◌, ℤ, pos, ◌≤ℤ◌, List, length, map, Bool, true, false, ◌⊎◌, inl, inr, Option, arith, unsigned_abs}
use Rattle.std.specs.Prelude.{zip}
use Rattle.std.proofs.lemmas.Bool.{cases_lt}
use Rattle.std.proofs.lemmas.List.{length-map}
use Rattle.sidb_units.specs.declared.TheConstants.{MAX_ENTRIES}
use Rattle.charge_model.specs.declared.charge.Charge.{Charge}
use Rattle.charge_model.specs.declared.span.Span.{Span}
use Rattle.charge_model.specs.Problem.{Problem, IsProblem}
use Rattle.charge_model.specs.GroundList.{Entry, lists_of}
use Rattle.charge_model.specs.Tree.{IsLeastCertain, node_count}
use Rattle.window_model.specs.Windows.{IsMarkedWindowList}
use Rattle.walk_model.specs.Walks.{raised_bound}
use Rattle.command_words.specs.declared.settings.Settings.{Settings}
use Rattle.entry_lines.specs.EntryLines.{entry_words}
use Rattle.fault_lines.specs.FaultLines.{budget_line, list_too_long_line}
use Rattle.ground_report.specs.declared.about.About.{About}
use Rattle.ground_report.specs.Energies.{AreEnergies}
use Rattle.ground_state.specs.Window.{IsWindowListedWithin, IsWindowWithinLimit}
use Rattle.occupation.specs.declared.share.Share.{Share}
use Rattle.occupation.specs.Shares.{AreRoundedShares}
use Rattle.run_answer.specs.declared.status.Status.{Status}
use Rattle.run_answer.specs.declared.status.Status.TheVariants.{Answered, Budget, ListTooLong}
use Rattle.sim_report.specs.GroundText.{energy_row, titled_text}
use Rattle.sim_report.specs.WindowText.{IsWindowText, window_title_rows}
use Rattle.task_levels.specs.OccupationAnswer.{IsOccupationAnswer, text_of_shares}
use Rattle.task_levels.specs.WindowAnswer.{IsWindowListAnswer, IsWindowUnlisted}

-- what each problem has
pub record AreListLaws : Type 0 where
  pub bound : (p : Problem) → IsProblem p → (bound : Option ℤ) × IsLeastCertain p bound
  pub list : (p : Problem) (window : ℤ) → IsProblem p → pos 0 ≤ℤ window → (es : List Entry) × IsMarkedWindowList p window es

-- entries have energies
abbrev pub HaveEnergies : Type 0
HaveEnergies = (p : Problem) (es : List Entry) → IsProblem p → (spans : List Span) × AreEnergies p es spans

-- lists have shares
abbrev pub HaveShares : Type 0
HaveShares = (p : Problem) (kt : ℕ) (l : List (List Charge)) → IsProblem p → (shares : List Share) × AreRoundedShares p kt l shares

-- some status and text say why there is no list
abbrev IsRefused : Settings → Problem → Type 0
IsRefused s p = (status : Status) × (text : List ℕ) × IsWindowUnlisted s p status text

-- there is a list within the limit
abbrev IsListed : Settings → Problem → Type 0
IsListed s p = (es : List Entry) × IsWindowListedWithin p s.levels.window.width s.search.limit es

module _ (laws : AreListLaws) (s : Settings) (p : Problem) (valid : IsProblem p) where
  -- within the limit: the list, or it is too long
  within_budget : IsWindowWithinLimit p s.levels.window.width s.search.limit → IsRefused s p ⊎ IsListed s p
  within_budget budget = with (laws.list p s.levels.window.width valid s.levels.window.is_window.least)
    where
      with : ((es : List Entry) × IsMarkedWindowList p s.levels.window.width es) → IsRefused s p ⊎ IsListed s p
      with (es, marked) = by (cases_lt MAX_ENTRIES (length es))
        where
          by : (MAX_ENTRIES < length es) ⊎ (length es ≤ MAX_ENTRIES) → IsRefused s p ⊎ IsListed s p
          by (inl many) =
              let long : MAX_ENTRIES < length (lists_of es) = omega (arith, many, length-map es (λ (e : Entry). e.charges)) in
              inl (ListTooLong, list_too_long_line, inr (record { budget = budget; many = (lists_of es, marked.within, long) }, (refl, refl)))
          by (inr few) = inr (es, record { budget = budget; list = marked; few = few })

  listed_or_not : IsRefused s p ⊎ IsListed s p
  listed_or_not = with (laws.bound p valid)
    where
      with : ((bound : Option ℤ) × IsLeastCertain p bound) → IsRefused s p ⊎ IsListed s p
      with (bound, least) = by (cases_lt s.search.limit (node_count p (raised_bound s.levels.window.width bound)))
        where
          by : (s.search.limit < node_count p (raised_bound s.levels.window.width bound)) ⊎ (node_count p (raised_bound s.levels.window.width bound) ≤ s.search.limit) → IsRefused s p ⊎ IsListed s p
          by (inl over) = inl (Budget, budget_line s.search.limit, inl ((bound, least, over), (refl, refl)))
          by (inr within) = within_budget (bound, least, within)

  module _ (have : HaveEnergies) (about : About) where
    -- entries have a window text
    some_text : (energies : Bool) (es : List Entry) → (text : List ℕ) × IsWindowText about p s.levels.window.width es energies text
    some_text false es = (titled_text (window_title_rows s.levels.window.width p.sites) about (map entry_words es), refl)
    some_text true es =
        let spans = have p es valid in
        (titled_text (window_title_rows s.levels.window.width p.sites) about (map energy_row (zip es spans.0)), record { spans = spans.0; energies = spans.1; prints = refl })

    pub some_answer : (status : Status) × (text : List ℕ) × IsWindowListAnswer s about p status text
    some_answer = by listed_or_not
      where
        by : IsRefused s p ⊎ IsListed s p → (status : Status) × (text : List ℕ) × IsWindowListAnswer s about p status text
        by (inl refused) = (refused.0, refused.1, inr refused.2)
        by (inr listed) =
            let text = some_text s.report.energies listed.0 in
            (Answered, text.0, inl (refl, record { entries = listed.0; list = listed.1; prints = text.1 }))

  pub some_occupation : HaveShares → (status : Status) × (text : List ℕ) × IsOccupationAnswer s p status text
  some_occupation have = by listed_or_not
    where
      by : IsRefused s p ⊎ IsListed s p → (status : Status) × (text : List ℕ) × IsOccupationAnswer s p status text
      by (inl refused) = (refused.0, refused.1, inr refused.2)
      by (inr listed) =
          let shares = have p (unsigned_abs s.levels.kt) (lists_of listed.0) valid in
          (Answered, text_of_shares s p listed.0 shares.0, inl (refl, record { entries = listed.0; list = listed.1; shares = shares.0; by_rule = shares.1; prints = refl }))
