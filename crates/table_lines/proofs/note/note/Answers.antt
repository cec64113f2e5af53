use Rattle.std.proofs.Common.{◌≡◌, ◌∙◌, sym, ap, refl, [], ◌∷◌, ◌++◌}
use Rattle.std.proofs.lemmas.List.{append-nil, map-append}
use Rattle.charge_model.specs.declared.TheConstants.{MAX_SITES, MAX_FIXED}
use Rattle.table_lines.specs.Seen.{ends_of, cell_at}
use Rattle.table_lines.proofs.KindLemmas.{or_false, or_none}
use Rattle.table_lines.proofs.PlaceLemmas.{pair_read, near_read, notes_pair, notes_near, class_read}
use Rattle.table_lines.proofs.note.note.Goals as goal

pub cell-requires-clause-first_high : goal.cell-requires-clause-first_high
cell-requires-clause-first_high c =
    let read = pair_read c.args.seen.now.lines.items c.args.line.now c.in-Pair.i c.in-Pair.j c.in-Pair.c c.requires.fine c.requires.fine_line c.in-Pair.is in
    rw read.i_fits read.i_high

pub cell-requires-clause-second_high : goal.cell-requires-clause-second_high
cell-requires-clause-second_high c =
    let read = pair_read c.args.seen.now.lines.items c.args.line.now c.in-Pair.i c.in-Pair.j c.in-Pair.c c.requires.fine c.requires.fine_line c.in-Pair.is in
    rw read.j_fits read.j_high

pub cell-requires-in-Near-clause-first_high : goal.cell-requires-in-Near-clause-first_high
cell-requires-in-Near-clause-first_high c =
    let read = near_read c.args.seen.now.lines.items c.args.line.now c.in-Near.i c.in-Near.a c.in-Near.c c.requires.fine c.requires.fine_line c.in-Near.is in
    rw read.i_fits read.i_high

pub cell-requires-in-Near-clause-second_high : goal.cell-requires-in-Near-clause-second_high
cell-requires-in-Near-clause-second_high c =
    let read = near_read c.args.seen.now.lines.items c.args.line.now c.in-Near.i c.in-Near.a c.in-Near.c c.requires.fine c.requires.fine_line c.in-Near.is in
    rw read.a_fits read.a_high

pub returns-in-Pair : goal.returns-in-Pair
returns-in-Pair c =
    let read = pair_read c.args.seen.now.lines.items c.args.line.now c.in-Pair.i c.in-Pair.j c.in-Pair.c c.requires.fine c.requires.fine_line c.in-Pair.is in
    let place = simp (read.i_fits, read.j_fits) at c.cell.ensures.value in
    rw (c.in-Pair.is, read.c_fits) (notes_pair c.args.seen.now c.in-Pair.i c.in-Pair.j c.in-Pair.c c.cell.result c.requires.counted read place)

pub returns-in-Near : goal.returns-in-Near
returns-in-Near c =
    let read = near_read c.args.seen.now.lines.items c.args.line.now c.in-Near.i c.in-Near.a c.in-Near.c c.requires.fine c.requires.fine_line c.in-Near.is in
    let place = simp (read.i_fits, read.a_fits) at c.cell-in-Near.ensures.value in
    rw (c.in-Near.is, read.c_fits) (notes_near c.args.seen.now c.in-Near.i c.in-Near.a c.in-Near.c c.cell-in-Near.result c.requires.counted read place)

pub returns-in_ok-push-in-Class : goal.returns-in_ok-push-in-Class
returns-in_ok-push-in-Class c =
    let old = c.args.seen.now in
    let read = class_read old.lines.items c.args.line.now c.in-Class.lo c.in-Class.hi c.requires.fine_line c.in-Class.is in
    let span = c.span_between.result in
    let ends : (span.lo, span.hi) ≡ (c.in-Class.lo, c.in-Class.hi) = ap (λ x. (x, span.hi)) (c.span_between.ensures.lo ∙ read.0) ∙ ap (λ x. (c.in-Class.lo, x)) (c.span_between.ensures.hi ∙ read.1) in
    rw c.in-Class.is (record {
      lines = refl;
      second = sym (or_false old.second);
      sites = refl;
      fixed = refl;
      base = refl;
      minus = refl;
      plus = refl;
      charges = sym (append-nil old.charges.items);
      spans = ap ends_of c.in_ok-push-in-Class.ensures.items ∙ map-append (λ s. (s.lo, s.hi)) old.spans.items (span ∷ []) ∙ ap (λ x. ends_of old.spans.items ++ x ∷ []) ends;
      all_pairs = refl;
      pairs = λ k l h g. sym (or_none (cell_at MAX_SITES old.pairs.items k l));
      all_near = refl;
      near = λ k b h g. sym (or_none (cell_at MAX_FIXED old.near.items k b));
    })
