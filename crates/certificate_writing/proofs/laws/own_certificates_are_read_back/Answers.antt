use Rattle.std.proofs.Common.{◌≤◌, ℕ, pos, List, length, sym, subst, arith}
use Rattle.std.proofs.lemmas.List.{length-map}
use Rattle.charge_model.specs.Problem.{Problem, IsProblem}
use Rattle.charge_model.specs.GroundList.{lists_of}
use Rattle.charge_model.specs.Tree.{node_count}
use Rattle.certificate_reading.specs.Fits.{FitsText}
use Rattle.certificate_reading.specs.Texts.{IsCertText}
use Rattle.certificate_writing.specs.Writing.{IsOwnCertificate}
use Rattle.certificate_writing.proofs.SmallMarks.{entries_fit}
use Rattle.certificate_writing.proofs.SmallTokens.{tokens_fit}
use Rattle.certificate_writing.proofs.laws.own_certificates_are_read_back.Goals as goal

pub returns-clause-fits : goal.returns-clause-fits
returns-clause-fits c p text own is few_entries few_nodes =
    let l = lists_of own.list in
    let many = length-map own.list (λ e. e.charges) in
    let few = c.nodes_have_few_tokens.ensures p (pos 0) own.bound l own.whole.tokens own.whole.walked in
    record {
      few_entries = few_entries;
      entries = entries_fit p own.list is (λ cs t table. c.energies_are_small.ensures p cs is t table) few_entries own.marked;
      few_tokens = omega (arith, few, few_nodes);
      tokens = tokens_fit p (pos 0) own.bound l is.few_sites (omega (arith, many, few_entries)) own.whole.tokens own.whole.walked;
    }

pub returns-clause-reads : goal.returns-clause-reads
returns-clause-reads c p text own is few_entries few_nodes =
    let fits = returns-clause-fits c p text own is few_entries few_nodes in
    subst (IsCertText p own.list own.whole.tokens) (sym own.whole.prints) (c.printed_text.ensures p own.list own.whole.tokens is fits)
