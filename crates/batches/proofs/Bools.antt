-- Two tests, of which the first decides or leaves it to the second.
-- Assumes nothing.
use mathlib.Core.Path.{◌≡◌, sym, ap}
use mathlib.Core.Bool.{Bool, true, false, ◌&&◌, ◌||◌}

module _ (s t : Bool) where
  pub and-stops : s ≡ false → false ≡ (s && t)
  and-stops e = sym (ap (λ (x : Bool). x && t) e)

  pub and-goes-on : s ≡ true → t ≡ (s && t)
  and-goes-on e = sym (ap (λ (x : Bool). x && t) e)

  pub or-stops : s ≡ true → true ≡ (s || t)
  or-stops e = sym (ap (λ (x : Bool). x || t) e)

  pub or-goes-on : s ≡ false → t ≡ (s || t)
  or-goes-on e = sym (ap (λ (x : Bool). x || t) e)
