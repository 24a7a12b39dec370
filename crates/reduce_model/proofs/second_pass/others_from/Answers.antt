use Rattle.std.proofs.Common.{◌≡◌, ◌+◌, ◌-◌, ℕ, suc, take, drop, map, List, Bool, refl, sym, ap, ◌∙◌, add-one, arith}
use Rattle.std.proofs.lemmas.List.{drop-map, drop-take, take-map, take_rest}
use Rattle.reduce_model.specs.Deciding.{after, is_kept, marked, those}
use Rattle.reduce_model.proofs.second_pass.others_from.Goals as goal

pub returns : goal.returns
returns c =
    let list = c.args.list.now in
    let ds = c.args.decisions.now in
    let p = c.args.place in
    let q = c.args.from in
    let order = c.requires.order in
    let e : q + (p - q) ≡ p = omega (arith, order) in
    let cut : take (p - q) (drop q list) ≡ drop q (take p list) = sym (drop-take q (p - q) list) ∙ ap (λ (k : ℕ). drop q (take k list)) e in
    let cut_marks : map is_kept (take (p - q) (drop q ds)) ≡ drop q (take p (map is_kept ds)) =
    ap (map is_kept) (sym (drop-take q (p - q) ds) ∙ ap (λ (k : ℕ). drop q (take k ds)) e) ∙ (sym (drop-map is_kept q (take p ds)) ∙ ap (drop q) (sym (take-map is_kept p ds))) in
    let front : those is_kept (take (p - q) (drop q list)) (take (p - q) (drop q ds)) ≡ marked (drop q (take p (map is_kept ds))) (drop q (take p list)) =
    ap (λ (l : List Bool). marked l (take (p - q) (drop q list))) cut_marks ∙ ap (marked (drop q (take p (map is_kept ds)))) cut in
    let back : those is_kept (drop (p + 1) list) (drop (p + 1) ds) ≡ after is_kept p list ds = rw add-one (ap (λ (l : List Bool). marked l (drop (suc p) list)) (sym (drop-map is_kept (suc p) ds))) in
    rw (c.in_ok-push_kept-2.ensures, c.in_ok-push_kept.ensures, c.new-others.ensures.items, take_rest list (p + 1), take_rest ds (p + 1), front, back) refl
