-- When two targets are one URB.
use Rattle.std.proofs.Common.{◌≡◌, ℕ, Bool, true, false, cond, eqb, refl, sym, ap, ◌∙◌}
use Rattle.std.specs.Prelude.{◌&&◌}
use Rattle.std.proofs.lemmas.Bool.{and_parts, eqb-true, true≢false}
use Rattle.usb_types.specs.declared.urb.Role.{Role}
use Rattle.usb_types.specs.declared.urb.Role.TheVariants as role
use Rattle.usb_scene.specs.declared.scene.Target.{Target}
use Rattle.usb_scene.specs.declared.scene.Target.TheVariants as target
use Rattle.usb_scene.specs.WellFormed.{role_number, is_on}

role_at : ℕ → Role
role_at n =
    cond (eqb n 0) role.In (cond (eqb n 1) role.Note (cond (eqb n 2) role.Read0 (cond (eqb n 3) role.Read1 (cond (eqb n 4) role.Write role.Ctl))))

role_back : (r : Role) → role_at (role_number r) ≡ r
unfolding role_at
role_back role.In = refl
role_back role.Note = refl
role_back role.Read0 = refl
role_back role.Read1 = refl
role_back role.Write = refl
role_back role.Ctl = refl

same_role : (q r : Role) → eqb (role_number q) (role_number r) ≡ true → q ≡ r
same_role q r h = sym (role_back q) ∙ ap role_at (eqb-true (role_number q) (role_number r) h) ∙ role_back r

pub same_urb : (u v : Target) → is_on u v ≡ true → u ≡ v
same_urb (target.Urb u) (target.Urb v) h = ap (λ n. target.Urb n) (sym (eqb-true v u h))
same_urb (target.Role d i q) (target.Role e j r) h =
    let p = and_parts (eqb e d && eqb j i) (eqb (role_number r) (role_number q)) h in
    let n = and_parts (eqb e d) (eqb j i) p.0 in
    ap (λ x. target.Role x i q) (sym (eqb-true e d n.0)) ∙ ap (λ x. target.Role e x q) (sym (eqb-true j i n.1)) ∙ ap (λ x. target.Role e j x) (sym (same_role r q p.1))
same_urb (target.Interface d i) (target.Interface e j) h =
    let p = and_parts (eqb e d) (eqb j i) h in
    ap (λ x. target.Interface x i) (sym (eqb-true e d p.0)) ∙ ap (λ x. target.Interface e x) (sym (eqb-true j i p.1))
same_urb (target.Anchor a) (target.Anchor b) h = ap (λ n. target.Anchor n) (sym (eqb-true b a h))
same_urb (target.Device d) (target.Device e) h = ap (λ n. target.Device n) (sym (eqb-true e d h))
same_urb target.Nothing target.Nothing h = refl
same_urb _ _ h = cc

-- the other way round
pub on_turned : (u v : Target) (t : Bool) → is_on v u ≡ t → is_on u v ≡ t
on_turned u v true e = let same : v ≡ u = same_urb v u e in ap (λ w. is_on u w) same ∙ sym (ap (λ w. is_on w u) same) ∙ e
on_turned u v false e = go (is_on u v) refl
  where
    go : (t : Bool) → is_on u v ≡ t → is_on u v ≡ false
    go false h = h
    go true h =
        let same : u ≡ v = same_urb u v h in
        let turned : is_on v u ≡ true = ap (λ w. is_on v w) same ∙ sym (ap (λ w. is_on w v) same) ∙ h in
        absurd (true≢false (sym turned ∙ e))
