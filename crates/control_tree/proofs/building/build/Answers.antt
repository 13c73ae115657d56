use Rattle.std.proofs.Common.{◌≡◌, ℕ, List, Err, length, subst, sym, ap, ◌∙◌}
use Rattle.std.proofs.lemmas.List.{length-map}
use Rattle.std.proofs.lemmas.Result.{err_from_is_err_and}
use Rattle.hive_model.specs.declared.sequence.Member.{Member}
use Rattle.text_model.specs.Forest.{Branch, branch_names}
use Rattle.control_tree.proofs.Checks.{forest-known, forest-refused}
use Rattle.control_tree.proofs.Distinct.{distinct-first, distinct-second}
use Rattle.control_tree.proofs.Inside.{numbered-within}
use Rattle.control_tree.specs.Members.{lists, numbered}
use Rattle.control_tree.specs.Shape.{AreMembersWithin}
use Rattle.control_tree.proofs.building.build.Goals as goal

pub sequence_names-requires : goal.sequence_names-requires
sequence_names-requires c = distinct-second c.args.algorithms.now (branch_names c.args.branches.now) c.requires.names

pub algorithm_names-requires : goal.algorithm_names-requires
algorithm_names-requires c = distinct-first c.args.algorithms.now (branch_names c.args.branches.now) c.requires.names

pub build_tree-requires-clause-within : goal.build_tree-requires-clause-within
build_tree-requires-clause-within c =
    let size : length c.in_ok-sequences.sequences ≡ length c.args.branches.now =
    ap length c.in_ok-sequences.ensures ∙ length-map c.args.branches.now (λ (b : Branch). b.name) in
    subst (λ (all : List (List Member)). AreMembersWithin (length c.args.branches.now) all) (sym c.in_ok-members.ensures.ok.1)
    (subst (λ (n : ℕ). AreMembersWithin n (numbered c.in_ok-algorithms.algorithms c.in_ok-sequences.sequences c.args.branches.now)) size
    (numbered-within c.in_ok-algorithms.algorithms c.in_ok-sequences.sequences c.args.branches.now))

pub returns-in_err-members : goal.returns-in_err-members
returns-in_err-members c =
    let p = err_from_is_err_and c.from_residual-in_err-members.result c.from_residual-in_err-members.ensures.1 in
    record {
      meaning = forest-refused c.args.algorithms.now c.in_ok-algorithms.algorithms c.in_ok-sequences.sequences c.args.branches.now c.args.top.now
          c.in_ok-number.number c.in_err-members.field-0.0 c.from_residual-in_err-members.result (p.1 ∙ ap Err p.2) c.in_ok-algorithms.ensures c.in_ok-sequences.ensures
          c.in_ok-number.ensures c.in_err-members.ensures.err;
    }

pub returns : goal.returns
returns c = record {
  meaning = forest-known c.args.algorithms.now c.in_ok-algorithms.algorithms c.in_ok-sequences.sequences c.args.branches.now
      (lists c.in_ok-members.members.items) c.args.top.now c.in_ok-number.number c.build_tree.result c.in_ok-algorithms.ensures c.in_ok-sequences.ensures
      c.in_ok-number.ensures c.in_ok-members.ensures.ok.0 c.in_ok-members.ensures.ok.1 c.build_tree.ensures;
}
