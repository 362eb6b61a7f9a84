-- What a reading that gave something was made of.
use Rattle.std.proofs.Common.{◌≡◌, ◌⊎◌, inl, inr, Bool, true, false, cond, Option, Some, None, Ok, Err, refl, ap}
use Rattle.chc_sexpr.specs.declared.fault.TextFault.{TextFault}
use Rattle.chc_elab.specs.Sites.{Reading, or_fault, ◌>>>◌}

pub some_same : {A : Type 0} (x y : A) → Some x ≡ Some y → x ≡ y
some_same x y h = cc

pub none_some : {A : Type 0} (x : A) → ◌≡◌ {A = Option A} None (Some x) → ⊥
none_some x h = cc

pub ok_same : {A : Type 0} (x y : A) → ◌≡◌ {A = Reading A} (Ok x) (Ok y) → x ≡ y
ok_same x y h = cc

pub err_ok : {A : Type 0} (e : TextFault) (x : A) → ◌≡◌ {A = Reading A} (Err e) (Ok x) → ⊥
err_ok e x h = cc

pub bind_ok : {A B : Type 0} (r : Reading A) (f : A → Reading B) (y : B) → (r >>> f) ≡ Ok y → (x : A) × (r ≡ Ok x) × (f x ≡ Ok y)
bind_ok (Ok x) f y h = (x, refl, h)
bind_ok (Err e) f y h = absurd (err_ok e y h)

pub bind_of : {A B : Type 0} (r : Reading A) (f : A → Reading B) (x : A) → r ≡ Ok x → (r >>> f) ≡ f x
bind_of r f x h = ap (λ r. r >>> f) h

pub or_fault_ok : {A : Type 0} (e : TextFault) (o : Option A) (x : A) → or_fault (Err e) o ≡ Ok x → o ≡ Some x
or_fault_ok e None x h = absurd (err_ok e x h)
or_fault_ok e (Some a) x h = ap (λ a. Some a) (ok_same a x h)

pub cond_ok : {A : Type 0} (b : Bool) (r : Reading A) (e : TextFault) (y : A) → cond b r (Err e) ≡ Ok y → (b ≡ true) × (r ≡ Ok y)
cond_ok true r e y h = (refl, h)
cond_ok false r e y h = absurd (err_ok e y h)

pub cond_else_ok : {A : Type 0} (b : Bool) (r : Reading A) (e : TextFault) (y : A) → cond b (Err e) r ≡ Ok y → (b ≡ false) × (r ≡ Ok y)
cond_else_ok true r e y h = absurd (err_ok e y h)
cond_else_ok false r e y h = (refl, h)

pub cond_some : {A : Type 0} (b : Bool) (x y : A) → cond b (Some x) None ≡ Some y → (b ≡ true) × (x ≡ y)
cond_some true x y h = (refl, some_same x y h)
cond_some false x y h = absurd (none_some y h)

-- which way a choice went
pub chosen : {A : Type 0} (b : Bool) (x y z : A) → cond b x y ≡ z → ((b ≡ true) × (x ≡ z)) ⊎ ((b ≡ false) × (y ≡ z))
chosen true x y z h = inl (refl, h)
chosen false x y z h = inr (refl, h)
