-- The line of a value reads as the value.
use Rattle.std.proofs.Common.{◌≡◌, ℕ, List, [], ◌∷◌, ◌++◌, Bool, false, true, cond, ◌&&◌, refl, sym, ap, ap₂, ◌∙◌, append_assoc, append-nil, subst, Option, option_and_then}
use Rattle.json.specs.Token.{Token, begin_object, end_object, begin_array, end_array, key, string, number, boolean, null, bad}
use Rattle.json.specs.Word.{ends_word, word}
use Rattle.json.specs.Lex.{token, comma, colon, string_token, lex, between, tokens, punctuate, fresh}
use Rattle.json.specs.Print.{escape, quoted, token_text, begins, ends, separator, print, print_from, IsPrintable, ArePrintable}
use Rattle.json.specs.Print.{ArePrintableOrBad}
use Rattle.json.specs.Json.{Json, null as jnull, boolean as jboolean, number as jnumber, string as jstring, array as jarray, object as jobject, Items, no_items, item, Members, no_members, member, value, if_last}
use Rattle.json.specs.Tree.{json_tokens, items_tokens, members_tokens, HasNumbers, ItemsHaveNumbers, MembersHaveNumbers}
use Rattle.json.proofs.Numbered.{ArePrintableOrBad-tokens}
use Rattle.json.proofs.Printed.Trees.{ArePrintable-json_tokens}
use Rattle.serde_json.specs.Data.{Data}
use Rattle.serde_json.specs.Read.{of_json, max_depth, read}
use Rattle.json.proofs.Printed.Strings.{content-escape, lex-escape}
use Rattle.json.proofs.Printed.Numbers.{lex-number, in_word-ended}

-- the lexemes of a text are those of the text with a line feed behind it
abbrev lf : List ℕ → List ℕ
lf r = r ++ 10 ∷ []

-- no word goes on behind a value, where none goes on in what stands behind the text
ends_behind : (behind : List ℕ) → ends_word behind ≡ true → (ts : List Token) → ends_word (print_from true ts ++ behind) ≡ true
unfolding print_from
ends_behind behind ends [] = ends
ends_behind behind ends (begin_object ∷ ts) = refl
ends_behind behind ends (end_object ∷ ts) = refl
ends_behind behind ends (begin_array ∷ ts) = refl
ends_behind behind ends (end_array ∷ ts) = refl
ends_behind behind ends (key s ∷ ts) = refl
ends_behind behind ends (string s ∷ ts) = refl
ends_behind behind ends (number s ∷ ts) = refl
ends_behind behind ends (boolean b ∷ ts) = refl
ends_behind behind ends (null ∷ ts) = refl
ends_behind behind ends (bad ∷ ts) = refl

after_value_ends : (ts : List Token) → ends_word (lf (print_from true ts)) ≡ true
after_value_ends ts = ends_behind (10 ∷ []) refl ts

plain_ends : (ts : List Token) → ends_word (print_from true ts) ≡ true
plain_ends ts = ap ends_word (sym (append-nil (print_from true ts))) ∙ ends_behind [] refl ts

same_quoted : (s r q : List ℕ) → lex between r ≡ lex between q → lex between (quoted s ++ r) ≡ lex between (quoted s ++ q)
unfolding lex
same_quoted s r q h =
    ap (λ l. lex between (34 ∷ l)) (append_assoc (escape s) (34 ∷ []) r)
    ∙ ap₂ (λ o l. token (string_token o) ∷ l) (content-escape s r ∙ sym (content-escape s q)) (lex-escape s r ∙ h ∙ sym (lex-escape s q))
    ∙ sym (ap (λ l. lex between (34 ∷ l)) (append_assoc (escape s) (34 ∷ []) q))

same_token : (t : Token) (r q : List ℕ) → IsPrintable t → (ends t ≡ true → (ends_word r ≡ true) × (ends_word q ≡ true)) → lex between r ≡ lex between q
    → lex between (token_text t ++ r) ≡ lex between (token_text t ++ q)
unfolding lex word
same_token begin_object r q h e k = ap (λ l. token begin_object ∷ l) k
same_token end_object r q h e k = ap (λ l. token end_object ∷ l) k
same_token begin_array r q h e k = ap (λ l. token begin_array ∷ l) k
same_token end_array r q h e k = ap (λ l. token end_array ∷ l) k
same_token (key s) r q h e k = ap (lex between) (append_assoc (quoted s) (58 ∷ []) r) ∙ same_quoted s (58 ∷ r) (58 ∷ q) (ap (λ l. colon ∷ l) k) ∙ sym (ap (lex between) (append_assoc (quoted s) (58 ∷ []) q))
same_token (string s) r q h e k = same_quoted s r q k
same_token (number s) r q h e k = lex-number s r h (e refl).0 ∙ ap (λ l. token (number s) ∷ l) k ∙ sym (lex-number s q h (e refl).1)
same_token (boolean true) r q h e k = ap₂ (λ b l. token (cond b (boolean true) bad) ∷ l) ((e refl).0 ∙ sym (e refl).1) (in_word-ended r (e refl).0 ∙ k ∙ sym (in_word-ended q (e refl).1))
same_token (boolean false) r q h e k = ap₂ (λ b l. token (cond b (boolean false) bad) ∷ l) ((e refl).0 ∙ sym (e refl).1) (in_word-ended r (e refl).0 ∙ k ∙ sym (in_word-ended q (e refl).1))
same_token null r q h e k = ap₂ (λ b l. token (cond b null bad) ∷ l) ((e refl).0 ∙ sym (e refl).1) (in_word-ended r (e refl).0 ∙ k ∙ sym (in_word-ended q (e refl).1))
same_token bad r q h e k = absurd h

same_separator : (b : Bool) (r q : List ℕ) → lex between r ≡ lex between q → lex between (cond b (44 ∷ []) [] ++ r) ≡ lex between (cond b (44 ∷ []) [] ++ q)
unfolding lex
same_separator true r q h = ap (λ l. comma ∷ l) h
same_separator false r q h = h

lex-lf : (c : Bool) (ts : List Token) → ArePrintable ts → lex between (lf (print_from c ts)) ≡ lex between (print_from c ts)
unfolding lex print_from ArePrintable
lex-lf c [] h = refl
lex-lf c (t ∷ ts) h =
    ap (lex between) (append_assoc (separator c t) _ (10 ∷ []) ∙ ap (λ l. separator c t ++ l) (append_assoc (token_text t) (print_from (ends t) ts) (10 ∷ [])))
    ∙ same_separator (c && begins t) _ _ (same_token t (lf (print_from (ends t) ts)) (print_from (ends t) ts) h.0
    (λ e. (ap (λ b. ends_word (lf (print_from b ts))) e ∙ after_value_ends ts, ap (λ b. ends_word (print_from b ts)) e ∙ plain_ends ts))
    (lex-lf (ends t) ts h.1))

pub tokens-lf : (ts : List Token) → ArePrintable ts → tokens (print ts ++ 10 ∷ []) ≡ tokens (print ts)
tokens-lf ts h = ap (punctuate fresh) (lex-lf false ts h)

-- the tokens that a text has of some JSON are printable
mutual
  json_ok : (j : Json) (rest : List Token) → ArePrintableOrBad (json_tokens j ++ rest) → HasNumbers j × ArePrintableOrBad rest
  json_ok jnull rest h = (tt, h.1)
  json_ok (jboolean b) rest h = (tt, h.1)
  json_ok (jnumber s) rest h = (h.0, h.1)
  json_ok (jstring s) rest h = (tt, h.1)
  json_ok (jarray js) rest h = items_ok js rest h.1
  json_ok (jobject ms) rest h = members_ok ms rest h.1

  items_ok : (js : Items) (rest : List Token) → ArePrintableOrBad (items_tokens js ++ rest) → ItemsHaveNumbers js × ArePrintableOrBad rest
  items_ok no_items rest h = (tt, h.1)
  items_ok (item j js) rest h =
      let a = json_ok j (items_tokens js ++ rest) (subst ArePrintableOrBad (append_assoc (json_tokens j) (items_tokens js) rest) h) in
      let b = items_ok js rest a.1 in
      ((a.0, b.0), b.1)

  members_ok : (ms : Members) (rest : List Token) → ArePrintableOrBad (members_tokens ms ++ rest) → MembersHaveNumbers ms × ArePrintableOrBad rest
  members_ok no_members rest h = (tt, h.1)
  members_ok (member k j ms) rest h =
      let a = json_ok j (members_tokens ms ++ rest) (subst ArePrintableOrBad (append_assoc (json_tokens j) (members_tokens ms) rest) h.1) in
      let b = members_ok ms rest a.1 in
      ((a.0, b.0), b.1)

abbrev of_tokens : List Token → Option Data
of_tokens ts = option_and_then of_json (option_and_then (λ p. if_last p.0 p.1) (value max_depth ts))

-- a compact text reads as it does with a line feed behind it
pub read-lf : (text : List ℕ) (j : Json) → tokens text ≡ json_tokens j → text ≡ print (tokens text) → read (text ++ 10 ∷ []) ≡ read text
read-lf text j is compact =
    let bad_free : ArePrintableOrBad (json_tokens j ++ []) = subst ArePrintableOrBad (is ∙ sym (append-nil (json_tokens j))) (ArePrintableOrBad-tokens text) in
    let good : ArePrintable (tokens text) = subst ArePrintable (sym is) (ArePrintable-json_tokens j (json_ok j [] bad_free).0) in
    ap of_tokens (ap (λ t. tokens (t ++ 10 ∷ [])) compact ∙ tokens-lf (tokens text) good ∙ ap tokens (sym compact))
