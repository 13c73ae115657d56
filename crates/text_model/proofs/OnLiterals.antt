-- What an answer unfolds to compute the definitions of this crate on a literal.
use Rattle.std.specs.Prelude.{⊤}
use Rattle.csv.proofs.OnLiterals.{csv_on_literals}
use Rattle.toml.proofs.OnLiterals.{toml_on_literals}
use Rattle.hive_model.specs.Below.{below, below_within}
use Rattle.hive_model.specs.Tree.{nodes_of}
use Rattle.text_model.specs.Steps.{collect}
use Rattle.text_model.specs.Tokens.{literal, mark, symbol_at, tokens_from, tokens_of}
use Rattle.text_model.specs.Grammar.{operator_at, grouped, row, signed as signed_factor, bracketed, further, arguments, called, named, factor, written_of}
use Rattle.text_model.specs.ExprText.{handle_of, function_of, unknown_name, tree_over, tree_written, trees_written, expr_of}
use Rattle.text_model.specs.Names.{is_name, number_of, repeated_behind}
use Rattle.text_model.specs.Numerals.{numeral_below, signed, canonical_below}
use Rattle.text_model.specs.Pieces.{cut}
use Rattle.text_model.specs.Keys.{refusal_of_key, visit}
use Rattle.text_model.specs.Tables.{sequence_keys, top_keys}
use Rattle.text_model.specs.TableValues.{algorithm_of, sequence_of}
use Rattle.text_model.specs.Options.{options_of, refusal_of_tables, shape_refusal, read_tree, read_of}
use Rattle.text_model.specs.Walks.{leads_within, is_deeper_than}
use Rattle.text_model.specs.Producers.{graph_over, graph_of}
use Rattle.text_model.specs.Forest.{forest_over, forest_of}
use Rattle.text_model.specs.JobNames.{refusal_of_resources, refusal_of_algorithm, names_refusal}
use Rattle.text_model.specs.JobAlgorithms.{nodes_at, output_at, filter_at, algorithm_at, algorithms_from}
use Rattle.text_model.specs.CutNodes.{cut_refusal}
use Rattle.text_model.specs.Jobs.{job_of_raw, job_of}
use Rattle.text_model.specs.Migration.{with_member, without_member, version_2_of_sequence, version_2_of_items, version_2_of, migrated}
use Rattle.text_model.specs.Lines.{lines_in, lines, content, is_text}
use Rattle.text_model.specs.Cells.{cells_of}
use Rattle.text_model.specs.Products.{list_of, product_of, cell_of}
use Rattle.text_model.specs.Records.{record_of, line_of, after_line, joined, read_lines, known}
use Rattle.text_model.specs.Report.{spaced, put_line, report}
use Rattle.text_model.specs.Stops.{stop_options, stop_record}
use Rattle.text_model.specs.Whole.{whole}
use Rattle.text_model.specs.Timeline.{entry_text, timeline}
use Rattle.text_model.specs.TimelineRead.{outcome_of, admit_of, claim_of, done_of, back_of, retire_of, last_of, entry_of, entries_in, entries_of}

unfoldable pub text_on_literals : ⊤
unfolding csv_on_literals toml_on_literals below below_within nodes_of collect literal mark symbol_at tokens_from tokens_of operator_at grouped row signed_factor bracketed further arguments called named factor written_of handle_of function_of unknown_name tree_over tree_written trees_written expr_of is_name number_of repeated_behind numeral_below signed canonical_below cut refusal_of_key visit sequence_keys top_keys algorithm_of sequence_of options_of refusal_of_tables shape_refusal read_tree read_of leads_within is_deeper_than graph_over graph_of forest_over forest_of refusal_of_resources refusal_of_algorithm names_refusal nodes_at output_at filter_at algorithm_at algorithms_from cut_refusal job_of_raw job_of with_member without_member version_2_of_sequence version_2_of_items version_2_of migrated lines_in lines content is_text cells_of list_of product_of cell_of record_of line_of after_line joined read_lines known spaced put_line report stop_options stop_record whole entry_text timeline outcome_of admit_of claim_of done_of back_of retire_of last_of entry_of entries_in entries_of
text_on_literals = tt
