-- Certificates as JSON values. The members of an object stand in the byte order of their names.
use Rattle.std.specs.Prelude.{ℕ, ◌*◌, List, Bool, if◌then◌else◌, codes, drop, map, take}
use Rattle.std.specs.List.{range_with_len}
use Rattle.serde_json.specs.Data.{Data, number, unsigned, array, object, member, no_members}
use Rattle.serde_json.specs.View.{items_of}
use Rattle.chain_cert.specs.Links.{state_count, width}
use Rattle.chain_cert.specs.Parts.{ChainParts, LinkParts}

abbrev pub list_value : List Data → Data
list_value values = array (items_of values)

abbrev pub number_value : ℕ → Data
number_value n = number (unsigned n)

abbrev pub numbers_value : List ℕ → Data
numbers_value numbers = list_value (map number_value numbers)

-- pairs or triples
abbrev pub tuples_value : List (List ℕ) → Data
tuples_value tuples = list_value (map numbers_value tuples)

-- 1 for an accepting state, and 0 for another
abbrev pub mark_value : Bool → Data
mark_value accepts = number_value (if accepts then 1 else 0)

-- the states after a state, column by column
abbrev pub row_of : LinkParts → ℕ → List ℕ
row_of link state = take (width link) (drop (state * width link) link.next)

abbrev pub rows_of : LinkParts → List (List ℕ)
rows_of link = map (row_of link) (range_with_len 0 (state_count link))

-- an automaton with its triples, by the values of its members
abbrev pub link_object : Data → Data → Data → Data → Data
link_object accepting columns next pairs = object
    (member (codes "accepting") accepting (member (codes "columns") columns (member (codes "next") next (member (codes "pairs") pairs no_members))))

abbrev pub link_value : LinkParts → Data
link_value link = link_object (list_value (map mark_value link.accepting)) (numbers_value link.columns) (tuples_value (rows_of link)) (tuples_value link.pairs)

-- a report with links and pairs
abbrev pub chain_object : List Data → List Data → Data → Data
chain_object links implied report = object
    (member (codes "chain") (list_value links) (member (codes "implied") (list_value implied) (member (codes "report") report no_members)))

-- a report with a chain
abbrev pub certificate_object : Data → ChainParts → Data
certificate_object report chain = chain_object (map link_value chain.links) (map tuples_value chain.implied) report
