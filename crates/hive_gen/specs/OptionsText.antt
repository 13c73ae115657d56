-- The options of the job that generated events are for. `Sum` adds up the hits, `Cut` keeps large totals, and
-- `Ratio` faults where the divisor is 0. `Top` is strict, so each event runs both of its branches.
use Rattle.std.specs.Prelude.{codes, ℕ, List, ◌++◌}

unfoldable pub options_text : List ℕ
options_text =
    codes "top = \"Top\"\n"
    ++ codes "raw = [{ name = \"hits\", kind = \"list\" }, { name = \"div\", kind = \"num\" }]\n"
    ++ codes "resource = [{ name = \"db\", units = 2 }]\n"
    ++ codes "algorithm = [\n"
    ++ codes "  { name = \"Sum\", cardinality = 2, resources = [\"db\"], inputs = [\"hits\"], "
    ++ codes "output = [{ name = \"total\", kind = \"num\", value = \"sum(hits)\" }] },\n"
    ++ codes "  { name = \"Cut\", cardinality = 0, inputs = [\"total\"], filter = \"total > 500\" },\n"
    ++ codes "  { name = \"Ratio\", resources = [\"db\"], inputs = [\"div\"], "
    ++ codes "output = [{ name = \"ratio\", kind = \"num\", value = \"100 / div\" }] },\n"
    ++ codes "]\n"
    ++ codes "sequence = [\n"
    ++ codes "  { name = \"Main\", members = [\"Sum\", \"Cut\"], sequential = true },\n"
    ++ codes "  { name = \"Top\", members = [\"Main\", \"Ratio\"], short_circuit = false },\n"
    ++ codes "]\n"
