-- What an answer unfolds to compute the job of an options text that stands there.
use Rattle.std.specs.Prelude.{⊤}
use Rattle.toml.proofs.OnLiterals.{toml_on_literals}
use Rattle.hive_model.specs.Below.{below, below_within}
use Rattle.hive_model.specs.Tree.{nodes_of}
use Rattle.text_model.specs.Steps.{collect}
use Rattle.text_model.specs.Tokens.{literal, mark, symbol_at, tokens_from, tokens_of}
use Rattle.text_model.specs.Grammar.{operator_at, grouped, row, signed as signed_factor, bracketed, further, arguments, called, named, factor, written_of}
use Rattle.text_model.specs.ExprText.{handle_of, function_of, unknown_name, tree_over, tree_written, trees_written, expr_of}
use Rattle.text_model.specs.Names.{is_name, number_of, repeated_behind}
use Rattle.text_model.specs.Numerals.{numeral_below, signed, canonical_below}
use Rattle.text_model.specs.Pieces.{cut}
use Rattle.text_model.specs.Keys.{refusal_of_key, visit}
use Rattle.text_model.specs.Tables.{sequence_keys, top_keys}
use Rattle.text_model.specs.TableValues.{algorithm_of, sequence_of}
use Rattle.text_model.specs.Options.{options_of, refusal_of_tables, shape_refusal, read_tree, read_of}
use Rattle.text_model.specs.Walks.{leads_within, is_deeper_than}
use Rattle.text_model.specs.Producers.{graph_over, graph_of}
use Rattle.text_model.specs.Forest.{forest_over, forest_of}
use Rattle.text_model.specs.JobNames.{refusal_of_resources, refusal_of_algorithm, names_refusal}
use Rattle.text_model.specs.JobAlgorithms.{nodes_at, output_at, filter_at, algorithm_at, algorithms_from}
use Rattle.text_model.specs.CutNodes.{cut_refusal}
use Rattle.text_model.specs.Jobs.{job_of_raw, job_of}

unfoldable pub job_on_literals : ⊤
unfolding toml_on_literals below below_within nodes_of collect literal mark symbol_at tokens_from tokens_of operator_at grouped row signed_factor bracketed further arguments called named factor written_of handle_of function_of unknown_name tree_over tree_written trees_written expr_of is_name number_of repeated_behind numeral_below signed canonical_below cut refusal_of_key visit sequence_keys top_keys algorithm_of sequence_of options_of refusal_of_tables shape_refusal read_tree read_of leads_within is_deeper_than graph_over graph_of forest_over forest_of refusal_of_resources refusal_of_algorithm names_refusal nodes_at output_at filter_at algorithm_at algorithms_from cut_refusal job_of_raw job_of
job_on_literals = tt
