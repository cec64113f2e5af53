-- the sites that are generated one by one
use Rattle.std.proofs.Common.{◌≡◌, ◌∙◌, ap, sym, ℕ, suc, ◌+◌, ◌-◌, ◌<◌, ◌≤◌, List, [], ◌∷◌, ◌++◌, append_assoc, arith}
use Rattle.std.proofs.lemmas.List.{append-nil}
use Rattle.sidb_layout.specs.declared.site.Site.{Site}
use Rattle.task_gen.specs.Generator.{column_after, generated, site_by, state_after}

-- one of those that are left
first_of : (n m state column : ℕ) → n ≡ suc m → generated n state column ≡ site_by state column ∷ generated m (state_after state) (column_after state column)
first_of n m state column e = ap (λ k. generated k state column) e

pub one_more_site : (count i state column : ℕ) (site : Site) (next_column next : ℕ) (old new whole : List Site) → i < count → old ++ generated (count - i) state column ≡ whole → new ≡ old ++ site ∷ [] → site ≡ site_by state column → next_column ≡ column_after state column → next ≡ state_after state → new ++ generated (count - (i + 1)) next next_column ≡ whole
one_more_site count i state column site next_column next old new whole lt before pushed is at to =
    let left : count - i ≡ suc (count - (i + 1)) = omega arith in
    let rest : generated (count - (i + 1)) next next_column ≡ generated (count - (i + 1)) (state_after state) (column_after state column) =
    ap (λ s. generated (count - (i + 1)) s next_column) to ∙ ap (λ k. generated (count - (i + 1)) (state_after state) k) at in
    ap (λ l. l ++ generated (count - (i + 1)) next next_column) pushed ∙ append_assoc old (site ∷ []) (generated (count - (i + 1)) next next_column)
    ∙ ap (λ l. old ++ site ∷ l) rest ∙ ap (λ x. old ++ x ∷ generated (count - (i + 1)) (state_after state) (column_after state column)) is
    ∙ ap (λ l. old ++ l) (sym (first_of (count - i) (count - (i + 1)) state column left)) ∙ before

pub all_generated : (count i state column : ℕ) (old whole : List Site) → count ≤ i → old ++ generated (count - i) state column ≡ whole → old ≡ whole
all_generated count i state column old whole past before =
    let none : count - i ≡ 0 = omega arith in
    sym (append-nil old) ∙ ap (λ k. old ++ generated k state column) (sym none) ∙ before
