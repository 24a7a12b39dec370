-- Small tables and a summary, computed.
use Rattle.std.proofs.Common.{◌≡◌, [], ◌∷◌, codes, refl, None, Some}
use Rattle.serde_json.proofs.OnLiterals.{serde_json_on_literals}
use Rattle.std.specs.Fmt.{digits}
use Rattle.decl_base.specs.Fraction.{Fraction}
use Rattle.template_core.specs.declared.kind.Kind.{Kind}
use Rattle.template_core.specs.declared.kind.Kind.TheVariants.{Init, End, Participation, AtMostOne, Response}
use Rattle.scoring.specs.declared.scored.Scored.{Scored}
use Rattle.reduce_model.specs.declared.decision.Decision.TheVariants.{Kept, Weaker, FirstPass, Untested}
use Rattle.report_text.specs.CheckTable.{check_table_text}
use Rattle.report_text.specs.ModelTable.{model_table_text, consistent_table_text}
use Rattle.report_text.specs.Summary.{summary_of}

abbrev whole : Fraction
whole = record { num = 1; den = 1 }

abbrev of_one : Kind → Scored
of_one kind = record { constraint = record { kind = kind; first = 0; second = 0 }; support = whole; confidence = whole; interest = whole }

one_event : model_table_text (codes "a" ∷ []) (of_one Init ∷ of_one End ∷ of_one Participation ∷ of_one AtMostOne ∷ [])
    (Kept ∷ FirstPass ∷ Weaker 0 ∷ Kept ∷ []) ([] ∷ (0 ∷ 0 ∷ []) ∷ [])
    ≡ codes "     support   confidence     interest constraint\n         1/1          1/1          1/1 Init(\"a\") []\n         1/1          1/1          1/1 AtMostOne(\"a\") [\"a\",\"a\"]\n"
unfolding serde_json_on_literals digits
one_event = refl

untested : model_table_text (codes "a" ∷ []) (of_one Init ∷ of_one End ∷ of_one AtMostOne ∷ []) (Untested ∷ FirstPass ∷ Kept ∷ []) ((0 ∷ 0 ∷ []) ∷ [])
    ≡ codes "     support   confidence     interest constraint\n         1/1          1/1          1/1 Init(\"a\") -\n         1/1          1/1          1/1 AtMostOne(\"a\") [\"a\",\"a\"]\n"
unfolding serde_json_on_literals digits
untested = refl

without_witnesses : consistent_table_text (codes "a" ∷ []) (of_one Init ∷ of_one End ∷ []) (Kept ∷ FirstPass ∷ [])
    ≡ codes "     support   confidence     interest constraint\n         1/1          1/1          1/1 Init(\"a\")\n"
unfolding serde_json_on_literals digits
without_witnesses = refl

broken : check_table_text (codes "a" ∷ codes "b" ∷ []) (record { kind = Response; first = 0; second = 1 } ∷ [])
    (record { activated = 2; fulfilled = 1; kept = 1; broken = Some (record { trace = 2; place = 0 }) } ∷ [])
    ≡ codes " activated  fulfilled       kept      trace      place constraint\n         2          1          1          2          0 Response(\"a\",\"b\")\n"
unfolding serde_json_on_literals digits
broken = refl

unbroken : check_table_text (codes "z" ∷ codes "a" ∷ []) (record { kind = Response; first = 0; second = 1 } ∷ [])
    (record { activated = 0; fulfilled = 0; kept = 1; broken = None } ∷ [])
    ≡ codes " activated  fulfilled       kept      trace      place constraint\n         0          0          1          -          - Response(\"z\",\"a\")\n"
unfolding serde_json_on_literals digits
unbroken = refl

summary : summary_of 7 1 1 1 (Kept ∷ FirstPass ∷ Weaker 0 ∷ Kept ∷ [])
    ≡ codes "seed 7\ntraces 1\nevents 1\ntasks 1\ncandidates 4\nlisted 2\nconflict 0\nweaker 1\nfirst-pass 1\nsecond-pass 0\n"
unfolding digits
summary = refl
