-- The text of a verdict on a certificate: one line.
use Rattle.std.specs.Prelude.{ℕ, List, ◌++◌, codes, decimal}
use Rattle.chain_cert.specs.declared.verdict.Verdict.{Verdict}
use Rattle.chain_cert.specs.declared.verdict.Verdict.TheVariants.{Yes, No}

-- yes, or the check that fails first, and the item of which it fails
abbrev pub verdict_text : Verdict → List ℕ
verdict_text Yes = codes "yes\n"
verdict_text (No check at) = codes "no, check " ++ (decimal check ++ (codes ", item " ++ (decimal at ++ codes "\n")))
